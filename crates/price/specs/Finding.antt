-- The first place in a list where a test holds. Cited by the lists of the rules.
--
-- | word    | meaning                                        |
-- |---------|------------------------------------------------|
-- | FirstAt | the test holds at that place and at none before |
-- | Nowhere | the test holds at no place                     |
use Rattle.std.specs.Prelude.{◌≡◌, ℕ, ◌<◌, Bool, true, false, List, length, slice_index_or}

-- of the places before i
abbrev pub NotBefore : {X : Type 0} → (X → Bool) → List X → ℕ → Type 0
NotBefore {X} test xs i = (k : ℕ) (d : X) → k < i → test (slice_index_or xs k d) ≡ false

abbrev pub Nowhere : {X : Type 0} → (X → Bool) → List X → Type 0
Nowhere test xs = NotBefore test xs (length xs)

pub record FirstAt {X : Type 0} (test : X → Bool) (xs : List X) (i : ℕ) : Type 0 where
  pub within : i < length xs
  pub before : NotBefore test xs i
  pub here : (d : X) → test (slice_index_or xs i d) ≡ true
