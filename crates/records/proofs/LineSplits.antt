-- A text's lines: the first one, and those behind the line feed that ends it.
use Rattle.std.proofs.Common.{◌≡◌, ℕ, ◌+◌, ◌<◌, ◌≤◌, true, false, cond, eqb, List, [], ◌∷◌, length, get_or, drop, sym, refl, ap, ◌∙◌, arith}
use Rattle.std.proofs.lemmas.List.{drop-drop, drop_more, drop_all}
use Rattle.records.specs.Fields.{longer}
use Rattle.records.specs.Lines.{line, lines}
use Rattle.text.specs.Scanning.{feed}
use Rattle.text.proofs.Fronts.{span}

-- without the first byte
abbrev rest : List ℕ → List ℕ
rest [] = []
rest (b ∷ bs) = bs

-- the first line, and then the others
lines_split : (b : ℕ) (bs : List ℕ) → lines (b ∷ bs) ≡ line (b ∷ bs) ∷ lines (rest (drop (span feed (b ∷ bs)) (b ∷ bs)))
lines_split b [] =
    elim (eqb b 10) as
    (λ t. cond t ([] ∷ lines []) (longer b (lines [])) ≡ cond t [] (b ∷ []) ∷ lines (rest (drop (length (cond t [] (b ∷ []))) (b ∷ []))))
    [ true ↦ refl | false ↦ refl ]
lines_split b (d ∷ ds) =
    elim (eqb b 10) as
    (λ t. cond t ([] ∷ lines (d ∷ ds)) (longer b (lines (d ∷ ds)))
    ≡ cond t [] (b ∷ line (d ∷ ds)) ∷ lines (rest (drop (length (cond t [] (b ∷ line (d ∷ ds)))) (b ∷ d ∷ ds))))
    [ true ↦ refl | false ↦ ap (longer b) (lines_split d ds) ]

at_line : (xs : List ℕ) (at : ℕ) → at < length xs → lines (drop at xs) ≡ line (drop at xs) ∷ lines (rest (drop (at + span feed (drop at xs)) xs))
at_line xs at h =
    go (drop at xs) (drop_more xs at 0 h) ∙ ap (λ l. line (drop at xs) ∷ lines (rest l)) (drop-drop (span feed (drop at xs)) at xs)
  where
    go : (ys : List ℕ) → ys ≡ get_or xs at 0 ∷ drop (at + 1) xs → lines ys ≡ line ys ∷ lines (rest (drop (span feed ys) ys))
    go [] e = let z : ◌≡◌ {A = ℕ} 0 1 = cc in elim (let no : ⊥ = omega arith in no) [ ]
    go (b ∷ bs) e = lines_split b bs

-- the line ends before a line feed, and the next one begins behind it
pub line_fed : (xs : List ℕ) (at : ℕ) → at < length xs → at + span feed (drop at xs) < length xs
    → lines (drop at xs) ≡ line (drop at xs) ∷ lines (drop (at + span feed (drop at xs) + 1) xs)
line_fed xs at h k = at_line xs at h ∙ ap (λ l. line (drop at xs) ∷ lines (rest l)) (drop_more xs (at + span feed (drop at xs)) 0 k)

-- the line ends with the text
pub line_last : (xs : List ℕ) (at : ℕ) → at < length xs → length xs ≤ at + span feed (drop at xs)
    → lines (drop at xs) ≡ line (drop at xs) ∷ lines (drop (at + span feed (drop at xs)) xs)
line_last xs at h k =
    let e = drop_all (at + span feed (drop at xs)) xs k in
    at_line xs at h ∙ ap (λ l. line (drop at xs) ∷ lines l) (ap rest e ∙ sym e)
