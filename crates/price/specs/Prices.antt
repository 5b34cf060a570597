-- The list of a bill. Cited by the rule *bill*.
--
-- | word      | meaning                                                                      |
-- |-----------|------------------------------------------------------------------------------|
-- | Prices    | rows of which each lists a symbol with its price, or is free                 |
-- | price_of  | the price in the symbol's row, and 0 where it is unlisted                    |
-- | dearest   | the highest price that may be set                                            |
-- | Setting   | what setting a price answers, and which list it leaves                       |
-- | Repriced  | that symbol has the new price, and every other symbol has the price it had   |
use Rattle.std.specs.Prelude.{◌≡◌, ℕ, ◌<◌, ◌≤◌, cond, List, Option, is_none, Ok, Err, Result, ◌==◌, slice_set}
use Rattle.std.specs.Option.{unwrap_or}
use Rattle.text.specs.declared.cause.Layer.{Layer}
use Rattle.text.specs.declared.cause.Layer.TheVariants.{Field, Book}
use Rattle.text.specs.declared.cause.FieldCause.TheVariants.{Broken}
use Rattle.text.specs.declared.cause.BookCause.TheVariants.{ListFull}
use Rattle.price.specs.Finding.{FirstAt, Nowhere}
use Rattle.price.specs.Lists.{listed, is_for, value_of}
use Rattle.price.specs.declared.list.Listed.{Listed}

abbrev pub Prices : Type 0
Prices = List (Option (Listed ℕ))

abbrev pub price_of : Prices → ℕ → ℕ
price_of rows x = unwrap_or (value_of rows x) 0

abbrev pub dearest : ℕ
dearest = 10000

-- the price is looked at first; a refusal leaves the list as it was, and a grant changes one row
pub data Setting (rows : Prices) (x p : ℕ) (answer : Result (Unit {0}) Layer) (after : Prices) : Type 0 where
  too_dear : dearest < p → answer ≡ Err (Field Broken) → after ≡ rows → Setting rows x p answer after
  full : p ≤ dearest → Nowhere (is_for x) rows → Nowhere is_none rows → answer ≡ Err (Book ListFull) → after ≡ rows → Setting rows x p answer after
  changed : (i : ℕ) → p ≤ dearest → FirstAt (is_for x) rows i → answer ≡ Ok tt → after ≡ slice_set rows i (listed x p) → Setting rows x p answer after
  added : (i : ℕ) → p ≤ dearest → Nowhere (is_for x) rows → FirstAt is_none rows i → answer ≡ Ok tt → after ≡ slice_set rows i (listed x p)
      → Setting rows x p answer after

abbrev pub Repriced : Prices → ℕ → ℕ → Prices → Type 0
Repriced rows x p after = (y : ℕ) → price_of after y ≡ cond (y == x) p (price_of rows y)
