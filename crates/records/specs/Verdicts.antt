-- Nothing about the verdict on a line is left open.
--
-- | word       | meaning                                                              |
-- |------------|----------------------------------------------------------------------|
-- | OneVerdict | a granted line has no refusal, and a refused one has one, at a place |
use Rattle.std.specs.Prelude.{◌≡◌, ℕ, ◌+◌, ◌≤◌, List, length}
use Rattle.records.specs.Judging.{Breaks, FirstBreak, Unbroken}
use Rattle.text.specs.declared.refusal.Refusal.{Refusal}

pub record Verdict (start : ℕ) (xs : List ℕ) : Type 0 where
  pub not_both : (e : Refusal) → FirstBreak (Breaks start xs) e → Unbroken (Breaks start xs) → ⊥
  pub one : (e f : Refusal) → FirstBreak (Breaks start xs) e → FirstBreak (Breaks start xs) f → e ≡ f
  -- the place lies in the line, or right behind its last byte
  pub within : (e : Refusal) → FirstBreak (Breaks start xs) e → e.place ≤ start + length xs

abbrev pub OneVerdict : Type 0
OneVerdict = (start : ℕ) (xs : List ℕ) → Verdict start xs
