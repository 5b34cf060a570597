-- The front of some bytes before the first that passes a test: its length, and the bytes that it takes.
use Rattle.std.proofs.Common.{◌≡◌, ℕ, ◌+◌, ◌≤◌, Bool, true, false, cond, not, List, [], ◌∷◌, length, take, drop, Option, refl, ap, arith, length-drop}
use Rattle.std.specs.List.{position_or_len, position}
use Rattle.std.specs.Option.{unwrap_or}
use Rattle.std.proofs.lemmas.Grind.{common_steps}
use Rattle.text.specs.Scanning.{front}
use Rattle.theory.specs.Names.{name_byte}
use Rattle.theory.specs.Fronts.{name_run}

-- how many bytes the front has
abbrev pub span : (ℕ → Bool) → List ℕ → ℕ
span p bs = length (front p bs)

span_le : (p : ℕ → Bool) (bs : List ℕ) → span p bs ≤ length bs
span_le p [] = omega arith
span_le p (b ∷ bs) =
    let h = span_le p bs in
    elim (p b) as (λ t. length (cond t [] (b ∷ front p bs)) ≤ length (b ∷ bs)) [ true ↦ omega arith | false ↦ omega arith ]

-- a stretch ends within its bytes
pub span_within : (p : ℕ → Bool) (xs : List ℕ) (at : ℕ) → at ≤ length xs → at + span p (drop at xs) ≤ length xs
span_within p xs at h = let k = span_le p (drop at xs) in omega (arith, length-drop at xs)

-- the front is as long as the place of the first byte that passes
span_position : (p : ℕ → Bool) (xs : List ℕ) → position_or_len p xs ≡ span p xs
span_position p [] = refl
span_position p (b ∷ bs) =
    let more = span_position p bs in
    elim (p b) as (λ t. cond (not t) (1 + position_or_len p bs) 0 ≡ length (cond t [] (b ∷ front p bs)))
    [ true ↦ refl | false ↦ omega arith ]

span_found : (p : ℕ → Bool) (xs : List ℕ) (r : Option ℕ) → r ≡ position p xs → unwrap_or r (length xs) ≡ span p xs
span_found p xs r e = let s = span_position p xs in let l = span_le p xs in grind (arith, common_steps)

front_taken : (p : ℕ → Bool) (bs : List ℕ) → take (span p bs) bs ≡ front p bs
front_taken p [] = refl
front_taken p (b ∷ bs) =
    let P : List ℕ → Type 0 = λ f. take (length f) (b ∷ bs) ≡ f in
    elim (p b) as (λ t. P (cond t [] (b ∷ front p bs))) [ true ↦ refl | false ↦ ap (λ f. b ∷ f) (front_taken p bs) ]

-- the bytes up to the place that was found, or all where none was, are the front
pub front_found : (p : ℕ → Bool) (xs : List ℕ) (r : Option ℕ) (end : ℕ) (ys : List ℕ)
    → r ≡ position p xs → end ≡ unwrap_or r (length xs) → ys ≡ take end xs → ys ≡ front p xs
front_found p xs r end ys first e t = rw (t, e, span_found p xs r first) (front_taken p xs)

-- the front before the first byte that no name has is the run of name bytes
pub front_run : (bs : List ℕ) → front (λ b. not (name_byte b)) bs ≡ name_run bs
front_run [] = refl
front_run (b ∷ bs) =
    elim (name_byte b) as (λ t. cond (not t) [] (b ∷ front (λ b. not (name_byte b)) bs) ≡ cond t (b ∷ name_run bs) [])
    [ true ↦ ap (λ f. b ∷ f) (front_run bs) | false ↦ refl ]
