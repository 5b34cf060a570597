-- Decimal numbers in a field.
--
-- | word     | meaning                                                    |
-- |----------|------------------------------------------------------------|
-- | IsNumber | 1 to 5 digits, with no leading zero unless it is 0 itself  |
-- | value    | the number that the digits say                             |
use Rattle.std.specs.Prelude.{◌≡◌, ℕ, ◌+◌, ◌-◌, ◌*◌, ◌<◌, ◌≤◌, true, List, [], ◌∷◌, length, slice_index, slice_index_or}
use Rattle.theory.specs.Names.{digit}

abbrev pub AllDigits : List ℕ → Type 0
AllDigits bs = (k : ℕ) → k < length bs → digit (slice_index bs k) ≡ true

pub record IsNumber (bs : List ℕ) : Type 0 where
  pub some : 1 ≤ length bs
  pub few : length bs ≤ 5
  pub digits : AllDigits bs
  pub plain : slice_index_or bs 0 0 ≡ 48 → length bs ≡ 1

-- the number that the digits say, behind digits that said `total`
abbrev pub value_on : ℕ → List ℕ → ℕ
value_on total [] = total
value_on total (b ∷ bs) = value_on (total * 10 + (b - 48)) bs

abbrev pub value : List ℕ → ℕ
value bs = value_on 0 bs
