-- A list of symbols, each with a value, in rows of which some are free. Cited by the list, and by the lists of the rules.
--
-- | word     | meaning                                                                      |
-- |----------|------------------------------------------------------------------------------|
-- | listed   | the row that lists a symbol with a value                                     |
-- | is_for   | the row lists the symbol                                                     |
-- | value_of | the value in the first row that lists the symbol, and none where none does   |
-- | Valuing  | what giving a symbol a value answers, and which list it leaves               |
-- | Revalued | that symbol has the new value, and every other symbol has what it had        |
use Rattle.std.specs.Prelude.{◌≡◌, ℕ, Bool, false, cond, List, [], ◌∷◌, Option, Some, None, is_none, Ok, Err, Result, ◌==◌, slice_set}
use Rattle.std.specs.Option.{option_map}
use Rattle.text.specs.declared.cause.BookCause.{BookCause}
use Rattle.text.specs.declared.cause.BookCause.TheVariants.{ListFull}
use Rattle.price.specs.Finding.{FirstAt, Nowhere}
use Rattle.price.specs.declared.list.Listed.{Listed}

abbrev pub listed : {V : Type 0} → ℕ → V → Option (Listed V)
listed x v = Some (record { symbol = x; value = v })

abbrev pub is_for : {V : Type 0} → ℕ → Option (Listed V) → Bool
is_for x None = false
is_for x (Some row) = row.symbol == x

abbrev pub value_of : {V : Type 0} → List (Option (Listed V)) → ℕ → Option V
value_of [] x = None
value_of (row ∷ rows) x = cond (is_for x row) (option_map (λ r. r.value) row) (value_of rows x)

-- a refusal leaves the list as it was, and a grant changes one row
pub data Valuing {V : Type 0} (rows : List (Option (Listed V))) (x : ℕ) (v : V) (answer : Result (Unit {0}) BookCause) (after : List (Option (Listed V))) : Type 0 where
  no_room : Nowhere (is_for x) rows → Nowhere is_none rows → answer ≡ Err ListFull → after ≡ rows → Valuing rows x v answer after
  renewed : (i : ℕ) → FirstAt (is_for x) rows i → answer ≡ Ok tt → after ≡ slice_set rows i (listed x v) → Valuing rows x v answer after
  entered : (i : ℕ) → Nowhere (is_for x) rows → FirstAt is_none rows i → answer ≡ Ok tt → after ≡ slice_set rows i (listed x v) → Valuing rows x v answer after

abbrev pub Revalued : {V : Type 0} → List (Option (Listed V)) → ℕ → V → List (Option (Listed V)) → Type 0
Revalued rows x v after = (y : ℕ) → value_of after y ≡ cond (y == x) (Some v) (value_of rows y)
