-- A level takes a byte at least: with as many levels as bytes, a reading never Ok too deep.
use Rattle.std.proofs.Common.{◌≡◌, ℕ, zero, suc, ◌-◌, ◌≤◌, true, false, cond, eqb, List, [], ◌∷◌, length, Ok, Err, drop, refl, arith, length-drop}
use Rattle.theory.specs.Fronts.{name_run}
use Rattle.text.specs.declared.build.BuildFault.TheVariants.{Broken, TooDeep}
use Rattle.text.specs.Reading.{Outcome, and_then, named?, opened, closed, followed, parts, reads}
use Rattle.text.proofs.ReadingSteps.{name_from_test}

-- not too deep, and at most n bytes are left
abbrev pub Short : ℕ → Outcome → Type 0
Short n (Ok ys) = length ys ≤ n
Short n (Err Broken) = Unit {0}
Short n (Err TooDeep) = ⊥

abbrev pub AllShort : ℕ → Type 0
AllShort d = (ys : List ℕ) → length ys ≤ d → Short (length ys) (reads d ys)

short_more : (m n : ℕ) (o : Outcome) → m ≤ n → Short m o → Short n o
short_more m n (Ok ys) h s = omega arith
short_more m n (Err Broken) h s = tt
short_more m n (Err TooDeep) h s = s

short_closed : (n : ℕ) (o : Outcome) → Short n o → Short n (and_then o closed)
short_closed n (Ok []) s = tt
short_closed n (Ok (b ∷ bs)) s =
    elim (eqb b 41) as (λ t. Short n (cond t (Ok bs) (Err Broken))) [ true ↦ omega arith | false ↦ tt ]
short_closed n (Err Broken) s = tt
short_closed n (Err TooDeep) s = s

short_followed : (d n : ℕ) (rs : List ℕ) → AllShort d → length rs ≤ n → n ≤ d → Short n (followed (reads d) rs)
short_followed d n [] all l h = tt
short_followed d n (b ∷ bs) all l h =
    elim (eqb b 44) as (λ t. Short n (cond t (and_then (reads d bs) closed) (closed (b ∷ bs)))) [
      | true ↦ short_closed n (reads d bs) (short_more (length bs) n (reads d bs) (omega arith) (all bs (omega arith)))
      | false ↦ short_closed n (Ok (b ∷ bs)) l
    ]

short_parts : (d : ℕ) (xs : List ℕ) → AllShort d → length xs ≤ d → Short (length xs) (parts (reads d) xs)
short_parts d xs all h =
    elim (reads d xs) as (λ o. Short (length xs) o → Short (length xs) (and_then o (followed (reads d)))) [
      | Ok rs ↦ λ s. short_followed d (length xs) rs all s h
      | Err e ↦ λ s. s
    ]
    (all xs h)

short_opened : (d : ℕ) (xs : List ℕ) → AllShort d → length xs ≤ d → Short (length xs) (opened (parts (reads d)) xs)
short_opened d [] all h = omega arith
short_opened d (b ∷ bs) all h =
    elim (eqb b 40) as (λ t. Short (length (b ∷ bs)) (cond t (parts (reads d) bs) (Ok (b ∷ bs)))) [
      | true ↦ short_more (length bs) (length (b ∷ bs)) (parts (reads d) bs) (omega arith) (short_parts d bs all (omega arith))
      | false ↦ omega arith
    ]

-- a text no longer than the levels is never too deep
pub read_short : (d : ℕ) (xs : List ℕ) → length xs ≤ d → Short (length xs) (reads d xs)
read_short zero [] h = tt
read_short zero (b ∷ bs) h = absurd (omega arith)
read_short (suc d) xs h =
    let rest = drop (length (name_run xs)) xs in
    elim (named? xs) as (λ t. named? xs ≡ t → Short (length xs) (cond t (opened (parts (reads d)) rest) (Err Broken))) [
      | true ↦ λ q.
          let n = name_from_test xs q in
          let l : length rest ≡ length xs - length (name_run xs) = length-drop (length (name_run xs)) xs in
          short_more (length rest) (length xs) (opened (parts (reads d)) rest) (omega arith) (short_opened d rest (read_short d) (omega (arith, n.some)))
      | false ↦ λ q. tt
    ] refl
