-- How a text begins. Cited by the contracts that read a text from left to right.
--
-- | word     | meaning                                                                               |
-- |----------|---------------------------------------------------------------------------------------|
-- | name_run | the longest front of a text that is name bytes alone                                  |
-- | Ended    | with that text behind it a build ends there: no name goes on, and no bracket opens    |
use Rattle.std.specs.Prelude.{◌≡◌, ℕ, cond, List, [], ◌∷◌, ◌≢◌, slice_index}
use Rattle.theory.specs.Names.{name_byte}
use Rattle.theory.specs.Builds.{Build, alone, one, two}

abbrev pub name_run : List ℕ → List ℕ
name_run [] = []
name_run (b ∷ bs) = cond (name_byte b) (b ∷ name_run bs) []

-- a build over parts ends at its close bracket, whatever follows; 40 is an open bracket
abbrev pub Ended : Build → List ℕ → Type 0
Ended (alone x) ys = (name_run ys ≡ []) × (slice_index ys 0 ≢ 40)
Ended (one x u) ys = Unit {0}
Ended (two x u v) ys = Unit {0}
