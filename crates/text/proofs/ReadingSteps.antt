-- The steps of a reading: what each word of it gives at what stands next in the text.
use Rattle.std.proofs.Common.{◌≡◌, ℕ, zero, suc, ◌-◌, ◌≤◌, true, false, cond, leb, List, [], ◌∷◌, ◌++◌, length, Ok, Err, get_or, take, drop, sym, refl, ap, ◌∙◌, subst, arith, ne_eqb, le-leb, leb-true}
use borrow.Author.Tests.{clash}
use Rattle.std.proofs.lemmas.List.{drop_at, take_all}
use Rattle.theory.specs.Names.{Name, IsName, letter}
use Rattle.theory.specs.Fronts.{name_run}
use Rattle.theory.proofs.Runs.{run_first, name_before, name_of_run}
use Rattle.text.specs.declared.build.BuildFault.TheVariants.{Broken, TooDeep}
use Rattle.text.specs.Reading.{Outcome, named?, named, opened, parts, reads}

-- ---- a name

-- the test of a name is exactly that
pub name_from_test : (xs : List ℕ) → named? xs ≡ true → IsName (name_run xs)
name_from_test xs =
    elim (leb 1 (length (name_run xs))) as (λ t. leb 1 (length (name_run xs)) ≡ t → cond t (cond (leb (length (name_run xs)) 12) (letter (get_or xs 0 0)) false) false ≡ true → IsName (name_run xs)) [
      | true ↦ λ e.
          elim (leb (length (name_run xs)) 12) as (λ t. leb (length (name_run xs)) 12 ≡ t → cond t (letter (get_or xs 0 0)) false ≡ true → IsName (name_run xs)) [
            | true ↦ λ f h. name_of_run xs (leb-true 1 (length (name_run xs)) e) (leb-true (length (name_run xs)) 12 f) h
            | false ↦ λ f h. absurd (clash h)
          ] refl
      | false ↦ λ e h. absurd (clash h)
    ] refl

pub test_from_name : (xs : List ℕ) → IsName (name_run xs) → named? xs ≡ true
test_from_name xs n =
    rw (le-leb 1 (length (name_run xs)) n.some, le-leb (length (name_run xs)) 12 n.few) (ap letter (sym (run_first xs n.some)) ∙ n.first)

pub named_goes : (next : List ℕ → Outcome) (xs : List ℕ) → IsName (name_run xs) → named next xs ≡ next (drop (length (name_run xs)) xs)
named_goes next xs n = ap (λ t. cond t (next (drop (length (name_run xs)) xs)) (Err Broken)) (test_from_name xs n)

pub named_fails : (next : List ℕ → Outcome) (xs : List ℕ) → (IsName (name_run xs) → ⊥) → named next xs ≡ Err Broken
named_fails next xs none =
    elim (named? xs) as (λ t. named? xs ≡ t → cond t (next (drop (length (name_run xs)) xs)) (Err Broken) ≡ Err Broken)
    [ true ↦ λ e. absurd (none (name_from_test xs e)) | false ↦ λ e. refl ] refl

-- a lawful name in front of what is no name byte is read, and that is left
pub past_name : (next : List ℕ → Outcome) (x : Name) (ys : List ℕ) → IsName x → name_run ys ≡ [] → named next (x ++ ys) ≡ next ys
past_name next x ys n q =
    let e : name_run (x ++ ys) ≡ x = name_before ys (x ++ ys) n q refl in
    let P : List ℕ → Type 0 = λ l. IsName l in
    named_goes next (x ++ ys) (subst P (sym e) n) ∙ ap next (ap (λ l. drop (length l) (x ++ ys)) e ∙ drop_at x ys (length x) refl)

-- ---- a build

pub reads_broken : (d : ℕ) (ys : List ℕ) → (IsName (name_run ys) → ⊥) → reads d ys ≡ Err Broken
reads_broken zero ys none = named_fails (λ _. Err TooDeep) ys none
reads_broken (suc d) ys none = named_fails (opened (parts (reads d))) ys none

-- a name is read, and there is a level for it
pub name_read : (d : ℕ) (xs name rest : List ℕ)
    → 1 ≤ d → name ≡ name_run xs → rest ≡ drop (length name) xs → IsName name → reads d xs ≡ opened (parts (reads (d - 1))) rest
name_read zero xs name rest h e r n = absurd (omega arith)
name_read (suc d) xs name rest h e r n =
    let k : suc d - 1 ≡ d = omega arith in
    let P : List ℕ → Type 0 = λ l. IsName l in
    rw (k, r, e) (named_goes (opened (parts (reads d))) xs (subst P e n))

-- and a bracket opens behind it
pub opened_some : (inner : List ℕ → Outcome) (ys : List ℕ) → 1 ≤ length ys → get_or ys 0 0 ≡ 40 → opened inner ys ≡ inner (take (length ys - 1) (drop 1 ys))
opened_some inner [] h e = absurd (omega arith)
opened_some inner (b ∷ bs) h e = rw (e, take_all (length (b ∷ bs) - 1) bs (omega arith))

pub opened_none : (inner : List ℕ → Outcome) (ys : List ℕ) → (get_or ys 0 0 ≡ 40 → ⊥) → opened inner ys ≡ Ok ys
opened_none inner [] n = refl
opened_none inner (b ∷ bs) n = rw (ne_eqb b 40 n)
