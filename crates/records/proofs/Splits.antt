-- A line's fields: the first one, and those behind the tab that ends it.
use Rattle.std.proofs.Common.{◌≡◌, ℕ, ◌-◌, ◌≤◌, true, false, cond, eqb, List, [], ◌∷◌, length, take, drop, sym, refl, ap, ◌∙◌, arith}
use Rattle.std.proofs.lemmas.List.{take_rest}
use Rattle.records.specs.Fields.{field, longer, fields, after}
use Rattle.text.specs.Scanning.{tab}
use Rattle.text.proofs.Fronts.{span, span_within}

-- the first field, and then the others
pub fields_split : (xs : List ℕ) → fields xs ≡ field xs ∷ after (drop (span tab xs) xs)
fields_split [] = refl
fields_split (b ∷ bs) =
    elim (eqb b 9) as
    (λ t. cond t ([] ∷ fields bs) (longer b (fields bs)) ≡ cond t [] (b ∷ field bs) ∷ after (drop (length (cond t [] (b ∷ field bs))) (b ∷ bs)))
    [ true ↦ refl | false ↦ ap (longer b) (fields_split bs) ]

-- the first field behind a tab, and what is left behind it
pub next_within : (ys f : List ℕ) → f ≡ field ys → length f ≤ length ys
next_within ys f d = omega (arith, ap length d, span_within tab ys 0 (omega arith))

pub next_split : (xs ys f : List ℕ) (b : ℕ) → xs ≡ b ∷ ys → f ≡ field ys
    → after xs ≡ f ∷ after (take (length ys - length f) (drop (length f) ys))
next_split xs ys f b e d =
    rw (e, d) (fields_split ys ∙ ap (λ t. field ys ∷ after t) (sym (take_rest ys (span tab ys))))
