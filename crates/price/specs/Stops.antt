-- Sums that stop. Cited by the three rules.
--
-- | word    | meaning                                                |
-- |---------|--------------------------------------------------------|
-- | stop    | the greatest number in a cost                          |
-- | stopped | the number itself, or the greatest where it is past it |
use Rattle.std.specs.Prelude.{ℕ, min}

abbrev pub stop : ℕ
stop = 4294967295

abbrev pub stopped : ℕ → ℕ
stopped n = min n stop
