-- An equation more in the rows is an equation more in the state.
use Rattle.std.proofs.Common.{◌≡◌, ℕ, ◌+◌, ◌-◌, ◌<◌, ◌≤◌, min, Bool, false, cond, List, [], ◌++◌, map, length, take, drop, sym, refl, ap, ◌∙◌, subst, inl, inr, arith, length-set}
use Rattle.std.proofs.lemmas.List.{get_or-set_same, get_or-set_other, get_or-take, length-take-le}
use Rattle.theory.specs.Books.{with_equation as equation_more}
use Rattle.theory.specs.Calls.{Answer, granted, refused, Both, Equating, Equating.full, Equating.accepted}
use Rattle.theory.proofs.Books.{same_state}
use Rattle.book.specs.declared.row.Row.{Row}
use Rattle.book.specs.Rows.{absent, row, class, trimmed, with_class, with_choice, with_equation, stored, Tidy, Based, Unchosen}
use Rattle.book.specs.Closing.{Level, Accepted}
use Rattle.book.specs.Layout.{Contents, room, entry_of, state_of, Relaid}
use Rattle.book.specs.Invariant.{Sound, Unpriced}
use Rattle.book.specs.Changes.{Equated}
use Rattle.book.proofs.Columns.{same_column, more_column}
use Rattle.book.proofs.Accepting.{either, accepted_unpriced, reset_of, sound_equated}
use Rattle.book.proofs.Behind.{row_front, unchosen_behind, accepted_behind}
use Rattle.book.proofs.Cores.{set_field, stored_core, core_tidy, core_based, core_level}
use Rattle.book.proofs.Front.{tidy_below, based_below, level_below}
use Rattle.book.proofs.States.{nodes_long, equated_long}
use Rattle.book.proofs.Booked.{book_of, laid_of}

module _ (s t : Contents) (K : Sound s) (a b : ℕ) (E : Equated s t a b) (space : s.equations < room s) where
  abbrev new_row : Row
  new_row = with_equation (row s.rows s.equations) a b

  long : length t.rows ≡ length s.rows
  long = E.rows.long ∙ length-set s.rows s.equations new_row

  -- what is not a class or a choice
  reset_field : {X : Type 0} (f : Row → X) → ((r : Row) (c : ℕ) → f (with_choice (with_class r c) 0) ≡ f r)
      → (i : ℕ) → f (row t.rows i) ≡ f (row (stored s.rows s.equations a b) i)
  reset_field f g i = elim (either i s.nodes) [
    | inl h ↦ ap f (E.rows.within i h) ∙ g (row (stored s.rows s.equations a b) i) (class t.rows i)
    | inr h ↦ ap f (E.rows.past i h)
  ]

  other : (i : ℕ) → (i ≡ s.equations → ⊥) → row (stored s.rows s.equations a b) i ≡ row s.rows i
  other i ne = get_or-set_other s.rows s.equations i new_row absent ne

  here : row (stored s.rows s.equations a b) s.equations ≡ new_row
  here = get_or-set_same s.rows s.equations new_row absent (omega arith)

  -- nor the equation
  field : {X : Type 0} (f : Row → X) → ((r : Row) (c : ℕ) → f (with_choice (with_class r c) 0) ≡ f r) → ((r : Row) → f (with_equation r a b) ≡ f r)
      → (i : ℕ) → f (row t.rows i) ≡ f (row s.rows i)
  field f g h i = reset_field f g i ∙ set_field f s.rows s.equations new_row (h (row s.rows s.equations)) i

  column_same : {X : Type 0} (f : Row → X) → ((r : Row) (c : ℕ) → f (with_choice (with_class r c) 0) ≡ f r) → ((r : Row) → f (with_equation r a b) ≡ f r)
      → (n m : ℕ) → m ≡ n → n ≤ length s.rows → map f (take m t.rows) ≡ map f (take n s.rows)
  column_same f g h n m e l =
      ap (λ (k : ℕ). map f (take k t.rows)) e
      ∙ same_column f s.rows t.rows n l (omega (arith, long)) (λ i q. field f g h i)

  pub equated_state : state_of t ≡ equation_more (state_of s) a b (state_of t).classes
  equated_state =
      same_state (state_of t) (equation_more (state_of s) a b (state_of t).classes)
      (column_same (λ (r : Row). trimmed r.name) (λ r c. refl) (λ r. refl) s.names t.names E.names K.names_fit.0)
      (column_same (λ (r : Row). entry_of r.node) (λ r c. refl) (λ r. refl) s.nodes t.nodes E.nodes K.nodes_fit.0)
      (ap (λ (k : ℕ). map (λ (r : Row). (r.equation.left, r.equation.right)) (take k t.rows)) E.equations
      ∙ more_column (λ (r : Row). (r.equation.left, r.equation.right)) s.rows t.rows s.equations (a, b) (omega arith) (omega (arith, long))
      (λ i q. reset_field (λ (r : Row). (r.equation.left, r.equation.right)) (λ r c. refl) i ∙ ap (λ (r : Row). (r.equation.left, r.equation.right)) (other i (omega arith)))
      (reset_field (λ (r : Row). (r.equation.left, r.equation.right)) (λ r c. refl) s.equations ∙ ap (λ (r : Row). (r.equation.left, r.equation.right)) here))
      refl
      (ap (λ (v : Bool). cond v (map (λ (r : Row). r.node.choice - 1) (take t.nodes t.rows)) []) E.priced)
      E.priced
      (ap (λ (n : ℕ). min n 1024) long)

  pub equated_laid : Sound t → Relaid s t
  equated_laid L = record { long = long; laid = laid_of t L; past = λ i h. E.rows.past i (omega (arith, K.nodes_fit)) ∙ other i (omega arith) }

-- what is answered where both nodes are known
module _ (s : Contents) (K : Sound s) (a b : ℕ) (at_a : a < s.nodes) (at_b : b < s.nodes) where
  both : Both (state_of s) a b
  both = let z = nodes_long s K in (omega arith, omega arith)

  pub answers_full : room s ≤ s.equations → (x : Answer ℕ) → x ≡ refused 15 → Equating (state_of s) a b x (state_of s)
  answers_full h x q = let z = equated_long s K in full both (omega arith) q refl

  -- the first m rows are the nodes'
  module _ (space : s.equations < room s) (m : ℕ) (em : m ≡ s.nodes) where
    stored_long : length (stored s.rows s.equations a b) ≡ length s.rows
    stored_long = length-set s.rows s.equations (with_equation (row s.rows s.equations) a b)

    pub fit : s.nodes ≤ length (stored s.rows s.equations a b)
    fit = omega (arith, stored_long, K.nodes_fit.0)

    tidy : Tidy (stored s.rows s.equations a b) s.nodes
    tidy = core_tidy s.rows (stored s.rows s.equations a b) s.nodes (stored_core s.rows s.equations a b) K.tidy

    same_front : (i : ℕ) → i < s.nodes → row (take s.nodes (stored s.rows s.equations a b)) i ≡ row (stored s.rows s.equations a b) i
    same_front i h = get_or-take s.nodes (stored s.rows s.equations a b) i absent h

    pub long_front : length (take m (stored s.rows s.equations a b)) ≡ s.nodes
    long_front = length-take-le m (stored s.rows s.equations a b) (omega (arith, fit)) ∙ em

    -- as a fact of the first rows
    at_front : (P : List Row → ℕ → Type 0) → P (take s.nodes (stored s.rows s.equations a b)) s.nodes
        → P (take m (stored s.rows s.equations a b)) (length (take m (stored s.rows s.equations a b)))
    at_front P p =
        subst (P (take m (stored s.rows s.equations a b))) (sym long_front)
        (subst (λ (k : ℕ). P (take k (stored s.rows s.equations a b)) s.nodes) (sym em) p)

    pub accept_tidy : Tidy (take m (stored s.rows s.equations a b)) (length (take m (stored s.rows s.equations a b)))
    accept_tidy =
        at_front Tidy (tidy_below (stored s.rows s.equations a b) (take s.nodes (stored s.rows s.equations a b)) s.nodes same_front tidy)

    pub accept_based : Based (take m (stored s.rows s.equations a b)) (length (take m (stored s.rows s.equations a b)))
    accept_based =
        at_front Based
        (based_below (stored s.rows s.equations a b) (take s.nodes (stored s.rows s.equations a b)) s.nodes same_front
        (core_based s.rows (stored s.rows s.equations a b) s.nodes (stored_core s.rows s.equations a b) K.based))

    pub accept_level : Level (take m (stored s.rows s.equations a b)) (length (take m (stored s.rows s.equations a b)))
    accept_level =
        at_front Level
        (level_below (stored s.rows s.equations a b) (take s.nodes (stored s.rows s.equations a b)) s.nodes same_front tidy
        (core_level s.rows (stored s.rows s.equations a b) s.nodes (stored_core s.rows s.equations a b) K.level))

    module _ (ys : List Row) (A : Accepted (take m (stored s.rows s.equations a b)) ys (length (take m (stored s.rows s.equations a b))) a b) where
      A' : Accepted (take s.nodes (stored s.rows s.equations a b)) ys s.nodes a b
      A' =
          subst (λ (k : ℕ). Accepted (take k (stored s.rows s.equations a b)) ys s.nodes a b) em
          (subst (λ (k : ℕ). Accepted (take m (stored s.rows s.equations a b)) ys k a b) long_front A)

      long_ys : length ys ≡ s.nodes
      long_ys = A.only.long ∙ long_front

      whole : Accepted (stored s.rows s.equations a b) (ys ++ drop s.nodes (stored s.rows s.equations a b)) s.nodes a b
      whole = accepted_behind (stored s.rows s.equations a b) ys s.nodes a b fit tidy at_a at_b long_ys A'

      pub accepted_unpriced_front : Unpriced ys (length ys) s.priced
      accepted_unpriced_front q i h =
          let z = long_ys in
          ap (λ (r : Row). r.node.choice) (sym (row_front (stored s.rows s.equations a b) ys s.nodes z i (omega arith)))
          ∙ accepted_unpriced s.rows (ys ++ drop s.nodes (stored s.rows s.equations a b)) s.nodes s.equations a b s.priced whole K.unpriced q i (omega arith)

      module _ (zs : List Row) (U : Unchosen ys zs (length ys)) where
        abbrev after : Contents
        after =
            record {
              rows = zs ++ drop m (stored s.rows s.equations a b);
              names = s.names;
              nodes = s.nodes;
              equations = s.equations + 1;
              priced = false;
            }

        abbrev after' : Contents
        after' =
            record {
              rows = zs ++ drop s.nodes (stored s.rows s.equations a b);
              names = s.names;
              nodes = s.nodes;
              equations = s.equations + 1;
              priced = false;
            }

        same_after : after ≡ after'
        same_after =
            ap (λ (k : ℕ). record {
              rows = zs ++ drop k (stored s.rows s.equations a b);
              names = s.names;
              nodes = s.nodes;
              equations = s.equations + 1;
              priced = false;
            }) em

        unchosen : Unchosen (ys ++ drop s.nodes (stored s.rows s.equations a b)) (zs ++ drop s.nodes (stored s.rows s.equations a b)) s.nodes
        unchosen = unchosen_behind (stored s.rows s.equations a b) ys zs s.nodes long_ys (subst (Unchosen ys zs) long_ys U)

        equated : Equated s after' a b
        equated =
            record {
              rows = reset_of s.rows _ _ s.nodes s.equations a b whole unchosen;
              names = refl;
              nodes = refl;
              equations = refl;
              priced = refl;
            }

        sound' : Sound after'
        sound' = sound_equated s K a b _ _ at_a at_b space whole unchosen

        pub sound_accepted : Sound after
        sound_accepted = subst Sound (sym same_after) sound'

        pub answers_new : Equating (state_of s) a b (granted s.equations) (state_of after)
        answers_new =
            let z = equated_long s K in
            subst (λ (t : Contents). Equating (state_of s) a b (granted s.equations) (state_of t)) (sym same_after)
            (accepted both (omega arith) (ap granted (sym z)) _ (equated_state s after' K a b equated space) (book_of after' sound'))

        pub laid_accepted : Relaid s after
        laid_accepted = subst (Relaid s) (sym same_after) (equated_laid s after' K a b equated space sound')
