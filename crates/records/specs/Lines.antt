-- The lines of a text.
--
-- | word       | meaning                                                                          |
-- |------------|----------------------------------------------------------------------------------|
-- | line       | the bytes before the first line feed                                             |
-- | lines      | the lines of a text: a line feed ends a line, and none is needed after the last  |
-- | taken      | the text whose lines are taken: none of a text that is too long                  |
-- | ended      | lines written one after another, each with a line feed after it                  |
use Rattle.std.specs.Prelude.{◌≡◌, ℕ, ◌<◌, cond, ◌⊎◌, List, [], ◌∷◌, ◌++◌, length, ◌==◌, ◌≢◌, nat_le, slice_index}
use mathlib.Core.List.{Memᴰ}
use Rattle.records.specs.Fields.{longer}
use Rattle.text.specs.Scanning.{front, feed}

-- the most bytes that a text may have
abbrev pub longest_text : ℕ
longest_text = 32768

abbrev pub line : List ℕ → List ℕ
line = front feed

abbrev pub lines : List ℕ → List (List ℕ)
lines [] = []
lines (b ∷ bs) = cond (b == 10) ([] ∷ lines bs) (longer b (lines bs))

abbrev pub taken : List ℕ → List ℕ
taken text = cond (nat_le (length text) longest_text) text []

abbrev pub ended : List (List ℕ) → List ℕ
ended [] = []
ended (l ∷ ls) = l ++ (10 ∷ ended ls)

-- no line has a line feed in it, and the lines with their line feeds are the text, to which at most the last line feed was added
pub record Rejoined (text : List ℕ) : Type 0 where
  pub clean : (l : List ℕ) → Memᴰ l (lines text) → (k : ℕ) → k < length l → slice_index l k ≢ 10
  pub whole : (ended (lines text) ≡ text) ⊎ (ended (lines text) ≡ text ++ (10 ∷ []))

abbrev pub LinesRejoin : Type 0
LinesRejoin = (text : List ℕ) → Rejoined text
