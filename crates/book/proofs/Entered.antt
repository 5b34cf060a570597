-- A node more in the rows is a node more in the state.
use Rattle.std.proofs.Common.{◌≡◌, ℕ, ◌+◌, ◌-◌, ◌<◌, ◌≤◌, min, Bool, false, cond, List, [], ◌∷◌, ◌++◌, map, length, take, drop, Some, None, position, sym, refl, ap, ◌∙◌, subst, inl, inr, arith}
use Rattle.std.proofs.lemmas.List.{length-take-le}
use Rattle.theory.specs.Calls.{Answer, granted, refused, Proper, UnknownBuild, Entering, Entering.known, Entering.full, Entering.new}
use Rattle.theory.specs.Books.{node_build}
use Rattle.theory.proofs.Books.{known_build, unknown_build}
use Rattle.theory.specs.Books.{with_node as node_more}
use Rattle.theory.proofs.Books.{same_state}
use Rattle.book.specs.declared.row.Row.{Row}
use Rattle.book.specs.declared.row.Node.{Node}
use Rattle.book.specs.declared.id.Parts.{Parts}
use Rattle.book.specs.Rows.{row, class, trimmed, with_choice, TidyNode, Tidy, Based, Unchosen}
use Rattle.book.specs.Entering.{asked, Within, new_node, with_node, raw_of, same_signature, placed, Put}
use Rattle.book.specs.Layout.{Contents, room, entry_of, state_of, Relaid}
use Rattle.book.specs.Invariant.{Sound, Unpriced}
use Rattle.book.specs.Changes.{Added}
use Rattle.book.proofs.Columns.{same_column, more_column}
use Rattle.book.proofs.Merging.{three}
use Rattle.book.proofs.Asked.{new_entry, new_tidy, new_symbol, new_class, new_choice, found_entry, entry_found, added_of, put_unpriced, proper_asked}
use Rattle.book.proofs.Adding.{placed_tidy, placed_based, put_long, sound_added}
use Rattle.book.proofs.Behind.{row_front, unchosen_behind, placed_front, put_behind}
use Rattle.book.proofs.Found.{found_at, found_none}
use Rattle.book.proofs.Front.{tidy_below, based_below}
use Rattle.book.proofs.Signs.{same_signature_true, same_signature_same}
use Rattle.book.proofs.States.{nodes_long, node_is}
use Rattle.book.proofs.Booked.{book_of, laid_of}

module _ (s t : Contents) (K : Sound s) (symbol : ℕ) (parts : Parts) (A : Added s t symbol parts) (space : s.nodes < room s) where
  -- what is not of the node stays
  field : {X : Type 0} (f : Row → X) → ((r : Row) (c : ℕ) → f (with_choice r c) ≡ f r) → ((r : Row) (x : Node) → f (with_node r x) ≡ f r)
      → (i : ℕ) → f (row t.rows i) ≡ f (row s.rows i)
  field f g h i = elim (three i s.nodes) [
    | inl e ↦
        ap (λ (m : ℕ). f (row t.rows m)) e
        ∙ ap f A.new
        ∙ h (row s.rows s.nodes) (new_node symbol parts (class t.rows s.nodes))
        ∙ sym (ap (λ (m : ℕ). f (row s.rows m)) e)
    | inr o ↦ elim o [ inl e ↦ ap f (A.within i e) ∙ g (row s.rows i) 0 | inr e ↦ ap f (A.past i e) ]
  ]

  column_same : {X : Type 0} (f : Row → X) → ((r : Row) (c : ℕ) → f (with_choice r c) ≡ f r) → ((r : Row) (x : Node) → f (with_node r x) ≡ f r)
      → (n m : ℕ) → m ≡ n → n ≤ length s.rows → map f (take m t.rows) ≡ map f (take n s.rows)
  column_same f g h n m e l =
      ap (λ (k : ℕ). map f (take k t.rows)) e
      ∙ same_column f s.rows t.rows n l (omega (arith, A.long)) (λ i q. field f g h i)

  column_more : {X : Type 0} (f : Row → X) → ((r : Row) (c : ℕ) → f (with_choice r c) ≡ f r) → (a : X) → f (row t.rows s.nodes) ≡ a
      → map f (take t.nodes t.rows) ≡ map f (take s.nodes s.rows) ++ (a ∷ [])
  column_more f g a e =
      ap (λ (k : ℕ). map f (take k t.rows)) A.nodes
      ∙ more_column f s.rows t.rows s.nodes a (omega arith) (omega (arith, A.long)) (λ i q. ap f (A.within i q) ∙ g (row s.rows i) 0) e

  pub added_state : state_of t ≡ node_more (state_of s) (asked symbol parts) (class t.rows s.nodes)
  added_state =
      same_state (state_of t) (node_more (state_of s) (asked symbol parts) (class t.rows s.nodes))
      (column_same (λ (r : Row). trimmed r.name) (λ r c. refl) (λ r x. refl) s.names t.names A.names K.names_fit.0)
      (column_more (λ (r : Row). entry_of r.node) (λ r c. refl) (asked symbol parts)
      (ap (λ (r : Row). entry_of r.node) A.new ∙ new_entry symbol (class t.rows s.nodes) parts))
      (column_same (λ (r : Row). (r.equation.left, r.equation.right)) (λ r c. refl) (λ r x. refl) s.equations t.equations A.equations K.equations_fit.0)
      (column_more (λ (r : Row). r.node.class) (λ r c. refl) (class t.rows s.nodes) refl)
      (ap (λ (v : Bool). cond v (map (λ (r : Row). r.node.choice - 1) (take t.nodes t.rows)) []) A.priced)
      A.priced
      (ap (λ (n : ℕ). min n 1024) A.long)

  pub added_laid : Sound t → Relaid s t
  added_laid L = record { long = A.long; laid = laid_of t L; past = λ i h. A.past i (omega arith) }

-- what is answered where the symbol and the parts are known
module _ (s : Contents) (K : Sound s) (symbol : ℕ) (parts : Parts) (x : Node) (known_symbol : symbol < s.names) (w : Within parts s.nodes)
    (e : x ≡ new_node symbol parts s.nodes) where
  abbrev says : Row → Bool
  says r = same_signature (raw_of r.node) (raw_of x)

  proper : Proper (state_of s) (asked symbol parts)
  proper = proper_asked s K symbol parts known_symbol w

  pub answers_known : (i : ℕ) → Some i ≡ position (λ (r : Row). same_signature (raw_of r.node) (raw_of x)) (take s.nodes s.rows)
      → Entering (state_of s) (asked symbol parts) (granted i) (state_of s)
  answers_known i q =
      let f = found_at says s.rows s.nodes K.nodes_fit.0 i q in
      let z = nodes_long s K in
      known proper i (omega (arith, f.0))
      (known_build (state_of s) (book_of s K) (asked symbol parts) i (omega (arith, f.0))
      (node_is s K i f.0 ∙ found_entry (row s.rows i).node x s.nodes symbol parts e (same_signature_true (raw_of (row s.rows i).node) (raw_of x) f.1)))
      refl refl

  module _ (none : None ≡ position (λ (r : Row). same_signature (raw_of r.node) (raw_of x)) (take s.nodes s.rows)) where
    fresh : (i : ℕ) → i < s.nodes → raw_of (row s.rows i).node ≡ raw_of x → ⊥
    fresh i h q =
        found_none says s.rows s.nodes K.nodes_fit.0 none i h (same_signature_same (raw_of (row s.rows i).node) (raw_of x) q)

    unknown : UnknownBuild (state_of s) (node_build (state_of s) (asked symbol parts))
    unknown =
        unknown_build (state_of s) (book_of s K) (asked symbol parts) proper
        (λ k h q.
        let z = nodes_long s K in
        let h' : k < s.nodes = omega arith in
        fresh k h' (entry_found (row s.rows k).node x k s.nodes symbol parts e (K.tidy k h') (sym (node_is s K k h') ∙ q)))

    pub answers_full : room s ≤ s.nodes → (a : Answer ℕ) → a ≡ refused 14 → Entering (state_of s) (asked symbol parts) a (state_of s)
    answers_full h a q = let z = nodes_long s K in full proper unknown (omega arith) q refl

    -- the new node is put into the last of the first m rows
    module _ (space : s.nodes < room s) (m : ℕ) (em : m ≡ s.nodes + 1) where
      fit : s.nodes < length s.rows
      fit = omega arith

      tidy_node : TidyNode s.nodes x
      tidy_node = subst (TidyNode s.nodes) (sym e) (new_tidy symbol s.nodes parts w)

      class_node : x.class ≡ s.nodes
      class_node = ap (λ (y : Node). y.class) e ∙ new_class symbol s.nodes parts

      tidy_placed : Tidy (placed s.rows s.nodes x) (s.nodes + 1)
      tidy_placed = placed_tidy s.rows s.nodes x fit K.tidy tidy_node

      long_front : length (take m s.rows) ≡ s.nodes + 1
      long_front = length-take-le m s.rows (omega arith) ∙ em

      -- as a fact of the first rows, up to the last
      at_front : (P : List Row → ℕ → ℕ → Type 0) → P (take (s.nodes + 1) s.rows) s.nodes (s.nodes + 1)
          → P (take m s.rows) (length (take m s.rows) - 1) (length (take m s.rows))
      at_front P p =
          let z = long_front in
          subst (λ (k : ℕ). P (take m s.rows) (length (take m s.rows) - 1) k) (sym z)
          (subst (λ (k : ℕ). P (take m s.rows) k (s.nodes + 1)) (omega arith) (subst (λ (k : ℕ). P (take k s.rows) s.nodes (s.nodes + 1)) (sym em) p))

      pub put_tidy : Tidy (placed (take m s.rows) (length (take m s.rows) - 1) x) (length (take m s.rows))
      put_tidy =
          at_front (λ (us : List Row) (k n : ℕ). Tidy (placed us k x) n)
          (tidy_below (placed s.rows s.nodes x) (placed (take (s.nodes + 1) s.rows) s.nodes x) (s.nodes + 1) (placed_front s.rows s.nodes x fit) tidy_placed)

      pub put_based : Based (placed (take m s.rows) (length (take m s.rows) - 1) x) (length (take m s.rows))
      put_based =
          at_front (λ (us : List Row) (k n : ℕ). Based (placed us k x) n)
          (based_below (placed s.rows s.nodes x) (placed (take (s.nodes + 1) s.rows) s.nodes x) (s.nodes + 1) (placed_front s.rows s.nodes x fit)
          (placed_based s.rows s.nodes x fit K.based class_node))

      module _ (ys : List Row) (P : Put (take m s.rows) ys (length (take m s.rows) - 1) x) where
        P' : Put (take (s.nodes + 1) s.rows) ys s.nodes x
        P' =
            let z = long_front in
            let i : length (take m s.rows) - 1 ≡ s.nodes = omega arith in
            subst (λ (k : ℕ). Put (take k s.rows) ys s.nodes x) em (subst (λ (k : ℕ). Put (take m s.rows) ys k x) i P)

        long_ys : length ys ≡ s.nodes + 1
        long_ys =
            let z = length-take-le (s.nodes + 1) s.rows (omega arith) in
            put_long (take (s.nodes + 1) s.rows) s.nodes x (omega arith) ys P' ∙ z

        whole : Put s.rows (ys ++ drop (s.nodes + 1) s.rows) s.nodes x
        whole = put_behind s.rows s.nodes x fit ys tidy_placed P'

        pub put_unpriced_front : Unpriced ys (length ys) s.priced
        put_unpriced_front q i h =
            let z = long_ys in
            ap (λ (r : Row). r.node.choice) (sym (row_front s.rows ys (s.nodes + 1) z i (omega arith)))
            ∙ put_unpriced s K symbol parts x (ys ++ drop (s.nodes + 1) s.rows) e fit whole q i (omega arith)

        module _ (zs : List Row) (U : Unchosen ys zs (length ys)) where
          abbrev after : Contents
          after = record { rows = zs ++ drop m s.rows; names = s.names; nodes = s.nodes + 1; equations = s.equations; priced = false }

          abbrev after' : Contents
          after' = record { rows = zs ++ drop (s.nodes + 1) s.rows; names = s.names; nodes = s.nodes + 1; equations = s.equations; priced = false }

          same_after : after ≡ after'
          same_after =
              ap (λ (k : ℕ). record { rows = zs ++ drop k s.rows; names = s.names; nodes = s.nodes + 1; equations = s.equations; priced = false }) em

          unchosen : Unchosen (ys ++ drop (s.nodes + 1) s.rows) (zs ++ drop (s.nodes + 1) s.rows) (s.nodes + 1)
          unchosen = unchosen_behind s.rows ys zs (s.nodes + 1) long_ys (subst (Unchosen ys zs) long_ys U)

          sound' : Sound after'
          sound' =
              let g = ap (λ (y : Node). y.symbol) e ∙ new_symbol symbol s.nodes parts in
              sound_added s K x tidy_node (omega arith) class_node (ap (λ (y : Node). y.choice) e ∙ new_choice symbol s.nodes parts) fresh space
              (ys ++ drop (s.nodes + 1) s.rows) (zs ++ drop (s.nodes + 1) s.rows) whole unchosen

          added : Added s after' symbol parts
          added = added_of s symbol parts x (ys ++ drop (s.nodes + 1) s.rows) (zs ++ drop (s.nodes + 1) s.rows) e fit whole unchosen

          pub sound_entered : Sound after
          sound_entered = subst Sound (sym same_after) sound'

          pub answers_new : Entering (state_of s) (asked symbol parts) (granted s.nodes) (state_of after)
          answers_new =
              let z = nodes_long s K in
              subst (λ (t : Contents). Entering (state_of s) (asked symbol parts) (granted s.nodes) (state_of t)) (sym same_after)
              (new proper unknown (omega arith) (ap granted (sym z)) _ (added_state s after' K symbol parts added space) (book_of after' sound'))

          pub laid_entered : Relaid s after
          laid_entered = subst (Relaid s) (sym same_after) (added_laid s after' K symbol parts added space sound')
