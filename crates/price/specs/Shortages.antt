-- The stock list, and costs that are pairs of what is missing and how many names there are. Cited by the rule *stock*.
--
-- | word       | meaning                                                                                  |
-- |------------|------------------------------------------------------------------------------------------|
-- | Symbols    | rows of which each lists a symbol, or is free                                            |
-- | on_list    | some row lists the symbol                                                                |
-- | lacks      | 1 for a symbol that is not on the list, else 0                                           |
-- | smaller    | the first pair is below the second: missing is compared first, then names                |
-- | shortage   | the pair of two counts: both stop, and where missing reaches the stop so does names      |
-- | FitsPair   | neither number passes the stop                                                           |
-- | Listing    | what listing a symbol answers, and which list it leaves                                  |
-- | Enlisted   | that symbol is on the list, and every other symbol is where it was                       |
use Rattle.std.specs.Prelude.{◌≡◌, ℕ, ◌≤◌, Bool, true, false, cond, List, Option, is_some, is_none, Ok, Err, Result, ◌==◌, nat_lt, slice_set}
use Rattle.text.specs.declared.cause.Layer.{Layer}
use Rattle.text.specs.declared.cause.Layer.TheVariants.{Book}
use Rattle.text.specs.declared.cause.BookCause.TheVariants.{ListFull}
use Rattle.price.specs.Finding.{FirstAt, Nowhere}
use Rattle.price.specs.Lists.{listed, value_of}
use Rattle.price.specs.Stops.{stop, stopped}
use Rattle.price.specs.declared.list.Listed.{Listed}
use Rattle.price.specs.declared.stock.Shortage.{Shortage}

abbrev pub Symbols : Type 0
Symbols = List (Option (Listed (Unit {0})))

abbrev pub on_list : Symbols → ℕ → Bool
on_list rows x = is_some (value_of rows x)

abbrev pub lacks : Symbols → ℕ → ℕ
lacks rows x = cond (on_list rows x) 0 1

abbrev pub smaller : Shortage → Shortage → Bool
smaller a b = cond (nat_lt a.missing b.missing) true (cond (nat_lt b.missing a.missing) false (nat_lt a.names b.names))

abbrev pub shortage : ℕ → ℕ → Shortage
shortage m n = cond (nat_lt m stop) (record { missing = m; names = stopped n }) (record { missing = stop; names = stop })

abbrev pub FitsPair : Shortage → Type 0
FitsPair a = (a.missing ≤ stop) × (a.names ≤ stop)

-- listing a listed symbol changes nothing, nor does a refusal
pub data Listing (rows : Symbols) (x : ℕ) (answer : Result (Unit {0}) Layer) (after : Symbols) : Type 0 where
  known : on_list rows x ≡ true → answer ≡ Ok tt → after ≡ rows → Listing rows x answer after
  full : on_list rows x ≡ false → Nowhere is_none rows → answer ≡ Err (Book ListFull) → after ≡ rows → Listing rows x answer after
  added : (i : ℕ) → on_list rows x ≡ false → FirstAt is_none rows i → answer ≡ Ok tt → after ≡ slice_set rows i (listed x tt) → Listing rows x answer after

abbrev pub Enlisted : Symbols → ℕ → Symbols → Type 0
Enlisted rows x after = (y : ℕ) → on_list after y ≡ cond (y == x) true (on_list rows y)
