-- Printed rows, as bytes. Cited by every contract that speaks of what is printed.
--
-- | word    | meaning                                                                       |
-- |---------|-------------------------------------------------------------------------------|
-- | texts   | the bytes of each field, where the fields are references                      |
-- | parted  | the fields with one space between two of them                                 |
-- | row     | the parted fields and a line feed; where there is no field, a line feed alone |
-- | Written | the buffer begins with what was printed, and is as it was after that          |
-- | Prints  | the row of some fields is printed whole, with its length as the answer; or it |
-- |         | is refused, since the buffer is too short, and the buffer is as found         |
use Rattle.std.specs.Prelude.{◌≡◌, ℕ, ◌<◌, ◌≤◌, List, [], ◌∷◌, ◌++◌, map, length, drop, Ok, Err, Result}
use Rattle.std.specs.Borrow.{Bor}
use Rattle.text.specs.declared.cause.BookCause.{BookCause}
use Rattle.text.specs.declared.cause.BookCause.TheVariants.{TooShort}

abbrev pub texts : List (Bor (List ℕ)) → List (List ℕ)
texts fields = map (λ x. x.now) fields

-- 32 is a space
abbrev pub parted : List (List ℕ) → List ℕ
parted [] = []
parted (f ∷ []) = f
parted (f ∷ g ∷ fs) = f ++ (32 ∷ parted (g ∷ fs))

-- 10 is a line feed
abbrev pub row : List (List ℕ) → List ℕ
row fs = parted fs ++ (10 ∷ [])

abbrev pub Written : (old new printed : List ℕ) → Type 0
Written old new printed = new ≡ printed ++ drop (length printed) old

pub record Prints (old new : List ℕ) (fs : List (List ℕ)) (r : Result ℕ BookCause) : Type 0 where
  pub granted : length (row fs) ≤ length old → r ≡ Ok (length (row fs))
  pub after : length (row fs) ≤ length old → Written old new (row fs)
  pub refused : length old < length (row fs) → r ≡ Err TooShort
  pub same : length old < length (row fs) → new ≡ old
