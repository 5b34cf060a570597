-- Choices of the stages stored in the rows: the book stays sound, and its state has them.
use Rattle.std.proofs.Common.{◌≡◌, ℕ, ◌+◌, ◌-◌, ◌<◌, ◌≤◌, min, true, List, map, length, get_or, take, sym, refl, ap, ◌∙◌, subst, inl, inr, true≢false, arith}
use Rattle.std.proofs.lemmas.List.{ext_get_or}
use Rattle.theory.specs.Costs.{Cheaper, LawfulOrder}
use Rattle.theory.specs.Books.{Chosen, with_choices}
use Rattle.theory.proofs.Books.{same_state}
use Rattle.book.specs.declared.row.Row.{Row}
use Rattle.book.specs.Rows.{row, trimmed, with_choice}
use Rattle.book.specs.Layout.{Contents, entry_of, state_of, Relaid}
use Rattle.book.specs.Invariant.{Sound}
use Rattle.book.specs.Changes.{Repriced}
use Rattle.book.specs.Held.{Kept}
use Rattle.book.proofs.Columns.{column_long, column_at, same_column}
use Rattle.book.proofs.Cores.{core, core_tidy, core_based, core_level}
use Rattle.book.proofs.Same.{spelt_same, named_same, known_same, distinct_same, obeys_same, follows_same}
use Rattle.book.proofs.Accepting.{either}
use Rattle.book.proofs.States.{nodes_long}
use Rattle.book.proofs.Booked.{laid_of, kept_of}

module _ (s t : Contents) (K : Sound s) (cs : List ℕ) (z : length cs ≡ s.nodes) (R : Repriced s t cs) where
  -- what is not the choice stays
  rest : (i : ℕ) → with_choice (row t.rows i) 0 ≡ with_choice (row s.rows i) 0
  rest i = elim (either i s.nodes) [
    | inl h ↦ ap (λ (r : Row). with_choice r 0) (R.within i h)
    | inr h ↦ ap (λ (r : Row). with_choice r 0) (R.past i h)
  ]

  cores : (i : ℕ) → core (row t.rows i) ≡ core (row s.rows i)
  cores i = ap core (rest i)

  names_stay : (i : ℕ) → (row t.rows i).name ≡ (row s.rows i).name
  names_stay i = ap (λ (r : Row). r.name) (rest i)

  fits : (n : ℕ) → n ≤ length s.rows → n ≤ length t.rows
  fits n h = omega (arith, R.long)

  stored_choice : (i : ℕ) → i < s.nodes → (row t.rows i).node.choice ≡ get_or cs i 0 + 1
  stored_choice i h = ap (λ (r : Row). r.node.choice) (R.within i h)

  -- the contents after, with the counts before
  abbrev after : Contents
  after = record { rows = t.rows; names = s.names; nodes = s.nodes; equations = s.equations; priced = true }

  is_after : t ≡ after
  is_after =
      λ i. record { rows = t.rows; names = R.names i; nodes = R.nodes i; equations = R.equations i; priced = R.priced i }

  said : (i : ℕ) → (row t.rows i).equation ≡ (row s.rows i).equation
  said i = ap (λ (r : Row). r.equation) (rest i)

  sound_after : Sound after
  sound_after =
      record {
        names_fit = (fits s.names K.names_fit.0, K.names_fit.1);
        nodes_fit = (fits s.nodes K.nodes_fit.0, K.nodes_fit.1);
        equations_fit = (fits s.equations K.equations_fit.0, K.equations_fit.1);
        tidy = core_tidy s.rows t.rows s.nodes cores K.tidy;
        spelt = spelt_same s K t.rows names_stay;
        named = named_same s K t.rows names_stay;
        known = known_same s K t.rows R.long cores said;
        distinct = distinct_same s K t.rows R.long cores said;
        based = core_based s.rows t.rows s.nodes cores K.based;
        level = core_level s.rows t.rows s.nodes cores K.level;
        obeys = obeys_same s K t.rows R.long cores said;
        follows = follows_same s K t.rows R.long cores said;
        blank = λ i h l.
            let B = K.blank i (omega (arith, R.long)) l in (
              λ q. names_stay i ∙ B.0 q,
              λ q. ap (λ (r : Row). r.node) (R.past i q) ∙ B.1 q,
              λ q. ap (λ (r : Row). r.equation) (rest i) ∙ B.2 q,
            );
        unpriced = λ e i h. absurd (true≢false e);
        priced = λ e i h. let q = stored_choice i h in omega arith;
      }

  pub sound_repriced : Sound t
  sound_repriced = subst Sound (sym is_after) sound_after

  column_same : {A : Type 0} (f : Row → A) → ((r : Row) → f r ≡ f (with_choice r 0)) → (n : ℕ) → n ≤ length s.rows
      → map f (take n t.rows) ≡ map f (take n s.rows)
  column_same f g n h =
      same_column f s.rows t.rows n h (fits n h) (λ i l. g (row t.rows i) ∙ ap f (rest i) ∙ sym (g (row s.rows i)))

  choices_are : map (λ (r : Row). r.node.choice - 1) (take s.nodes t.rows) ≡ cs
  choices_are =
      let n = column_long (λ (r : Row). r.node.choice - 1) t.rows s.nodes (fits s.nodes K.nodes_fit.0) in
      ext_get_or 0 (map (λ (r : Row). r.node.choice - 1) (take s.nodes t.rows)) cs (n ∙ sym z)
      (λ i l.
      let h : i < s.nodes = omega arith in
      let c = column_at (λ (r : Row). r.node.choice - 1) t.rows s.nodes i 0 (fits s.nodes K.nodes_fit.0) h in
      omega (arith, stored_choice i h))

  pub state_repriced : state_of t ≡ with_choices (state_of s) cs
  state_repriced =
      ap state_of is_after
      ∙ same_state (state_of after) (with_choices (state_of s) cs)
      (column_same (λ (r : Row). trimmed r.name) (λ r. refl) s.names K.names_fit.0)
      (column_same (λ (r : Row). entry_of r.node) (λ r. refl) s.nodes K.nodes_fit.0)
      (column_same (λ (r : Row). (r.equation.left, r.equation.right)) (λ r. refl) s.equations K.equations_fit.0)
      (column_same (λ (r : Row). r.node.class) (λ r. refl) s.nodes K.nodes_fit.0)
      choices_are
      refl
      (ap (λ (n : ℕ). min n 1024) R.long)

  pub laid_repriced : Relaid s t
  laid_repriced = record { long = R.long; laid = laid_of t sound_repriced; past = λ i h. R.past i (omega (arith, K.nodes_fit)) }

-- choices of the stages are as many as the nodes
pub chosen_long : (s : Contents) → Sound s → (cs : List ℕ) (cheaper : Cheaper) → Chosen (state_of s) cheaper cs → length cs ≡ s.nodes
chosen_long s K cs cheaper C = C.long ∙ nodes_long s K

pub kept_repriced : (s t : Contents) → Sound s → (cs : List ℕ) (cheaper : Cheaper) → LawfulOrder cheaper → Chosen (state_of s) cheaper cs → Repriced s t cs → Kept t
kept_repriced s t K cs cheaper L C R =
    let z = chosen_long s K cs cheaper C in
    kept_of t (sound_repriced s t K cs z R)
