-- Names, as bytes. Cited by every contract that grants or refuses a name.
--
-- | word      | meaning                                                            |
-- |-----------|--------------------------------------------------------------------|
-- | letter    | the byte is one of a to z                                          |
-- | digit     | the byte is one of 0 to 9                                          |
-- | name_byte | the byte may stand in a name: a letter, a digit or the minus sign  |
-- | Name      | the bytes of a name                                                |
-- | IsName    | the bytes are a lawful name                                        |
use Rattle.std.specs.Prelude.{◌≡◌, ℕ, ◌<◌, ◌≤◌, Bool, true, false, cond, List, length, ◌==◌, nat_le, slice_index}

abbrev pub letter : ℕ → Bool
letter b = cond (nat_le 97 b) (nat_le b 122) false

abbrev pub digit : ℕ → Bool
digit b = cond (nat_le 48 b) (nat_le b 57) false

abbrev pub name_byte : ℕ → Bool
name_byte b = cond (letter b) true (cond (digit b) true (b == 45))

abbrev pub Name : Type 0
Name = List ℕ

-- 1 to 12 bytes, each a letter, a digit or the minus sign, and the first a letter
pub record IsName (bs : Name) : Type 0 where
  pub some : 1 ≤ length bs
  pub few : length bs ≤ 12
  pub bytes : (k : ℕ) → k < length bs → name_byte (slice_index bs k) ≡ true
  pub first : letter (slice_index bs 0) ≡ true
