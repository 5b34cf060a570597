-- A name more in the rows is a name more in the state.
use Rattle.std.proofs.Common.{◌≡◌, ℕ, ◌-◌, ◌<◌, ◌≤◌, min, Bool, cond, List, [], map, length, take, sym, refl, ap, ◌∙◌, ap₂, arith, ◌+◌, set, Some, None, position}
use native.Mathlib.Decide.{ℕ_discrete}
use Rattle.std.specs.Str.{bytes_eq}
use Rattle.theory.specs.Names.{Name, IsName}
use Rattle.theory.specs.Calls.{Answer, granted, refused, UnknownName, Naming, Naming.known, Naming.full, Naming.new}
use Rattle.theory.specs.Books.{with_name as name_more}
use Rattle.theory.proofs.Books.{same_state}
use Rattle.book.specs.declared.row.Row.{Row}
use Rattle.book.specs.Rows.{row, trimmed}
use Rattle.book.specs.Layout.{Contents, room, entry_of, state_of, Relaid}
use Rattle.book.specs.Invariant.{Sound, Padded}
use Rattle.book.specs.Changes.{with_name, Titled}
use Rattle.book.proofs.Columns.{same_column, more_column}
use Rattle.book.proofs.States.{names_long, name_is}
use Rattle.book.proofs.Titles.{padded_name, known_title, no_title, titled_of, sound_titled}
use Rattle.book.proofs.Booked.{laid_of}

module _ (s t : Contents) (K : Sound s) (bs : Name) (G : IsName bs) (T : Titled s t bs) (space : s.names < room s) where
  -- what is not the name stays
  rest : (i : ℕ) → with_name (row t.rows i) [] ≡ with_name (row s.rows i) []
  rest i = go (ℕ_discrete i s.names)
    where
      go : Dec (i ≡ s.names) → with_name (row t.rows i) [] ≡ with_name (row s.rows i) []
      go (yes e) =
          ap (λ (m : ℕ). with_name (row t.rows m) []) e
          ∙ ap (λ (q : Row). with_name q []) T.new
          ∙ sym (ap (λ (m : ℕ). with_name (row s.rows m) []) e)
      go (no e) = ap (λ (q : Row). with_name q []) (T.other i e)

  column_same : {A : Type 0} (f : Row → A) → ((r : Row) → f r ≡ f (with_name r [])) → (n m : ℕ) → m ≡ n → n ≤ length s.rows
      → map f (take m t.rows) ≡ map f (take n s.rows)
  column_same f g n m e h =
      ap (λ (k : ℕ). map f (take k t.rows)) e
      ∙ same_column f s.rows t.rows n h (omega (arith, T.long))
      (λ i l. g (row t.rows i) ∙ ap f (rest i) ∙ sym (g (row s.rows i)))

  pub titled_state : state_of t ≡ name_more (state_of s) bs
  titled_state =
      same_state (state_of t) (name_more (state_of s) bs)
      (ap (λ (k : ℕ). map (λ (r : Row). trimmed r.name) (take k t.rows)) T.names
      ∙ more_column (λ (r : Row). trimmed r.name) s.rows t.rows s.names bs (omega arith) (omega (arith, T.long))
      (λ i l. ap (λ (r : Row). trimmed r.name) (T.other i (omega arith)))
      (padded_name (row t.rows s.names).name bs G T.name))
      (column_same (λ (r : Row). entry_of r.node) (λ r. refl) s.nodes t.nodes T.nodes K.nodes_fit.0)
      (column_same (λ (r : Row). (r.equation.left, r.equation.right)) (λ r. refl) s.equations t.equations T.equations K.equations_fit.0)
      (column_same (λ (r : Row). r.node.class) (λ r. refl) s.nodes t.nodes T.nodes K.nodes_fit.0)
      (ap₂ (λ (v : Bool) (l : List ℕ). cond v l []) T.priced
      (column_same (λ (r : Row). r.node.choice - 1) (λ r. refl) s.nodes t.nodes T.nodes K.nodes_fit.0))
      T.priced
      (ap (λ (n : ℕ). min n 1024) T.long)

  pub titled_laid : Sound t → Relaid s t
  titled_laid L = record { long = T.long; laid = laid_of t L; past = λ i h. T.other i (omega arith) }

-- what a name that is well formed is answered
module _ (s : Contents) (K : Sound s) (title : List ℕ) (bs : Name) (G : IsName bs) (P : Padded title bs) where
  pub answers_known : (i : ℕ) → Some i ≡ position (λ (r : Row). bytes_eq r.name title) (take s.names s.rows) → Naming (state_of s) bs (granted i) (state_of s)
  answers_known i e =
      let f = known_title s K title bs G P i e in
      known G i (omega (arith, names_long s K, f.0)) (name_is s K i f.0 ∙ f.1) refl refl

  module _ (none : None ≡ position (λ (r : Row). bytes_eq r.name title) (take s.names s.rows)) where
    unknown : UnknownName (state_of s) bs
    unknown k h e =
        let z = names_long s K in
        no_title s K title bs G P none k (omega arith) (sym (name_is s K k (omega arith)) ∙ e)

    pub answers_full : room s ≤ s.names → (a : Answer ℕ) → a ≡ refused 13 → Naming (state_of s) bs a (state_of s)
    answers_full h a e = full G unknown (omega (arith, names_long s K)) e refl

    module _ (space : s.names < room s) where
      abbrev after : Contents
      after =
          record {
            rows = set s.rows s.names (with_name (row s.rows s.names) title);
            names = s.names + 1;
            nodes = s.nodes;
            equations = s.equations;
            priced = s.priced;
          }

      pub sound_named : Sound after
      sound_named = sound_titled s K title bs G P (no_title s K title bs G P none) space

      titled : Titled s after bs
      titled = titled_of s title bs P (omega arith)

      pub answers_new : Naming (state_of s) bs (granted s.names) (state_of after)
      answers_new =
          let z = names_long s K in
          new G unknown (omega arith) (ap granted (sym z)) (titled_state s after K bs G titled space)

      pub laid_named : Relaid s after
      laid_named = titled_laid s after K bs G titled space sound_named
