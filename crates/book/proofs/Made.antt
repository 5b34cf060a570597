-- A book that is made holds nothing.
use Rattle.std.proofs.Common.{◌≡◌, ℕ, min, false, List, length, ap}
use Rattle.theory.specs.Books.{fresh}
use Rattle.book.specs.declared.row.Row.{Row}
use Rattle.book.specs.Layout.{Contents, state_of, Remade}
use Rattle.book.specs.Changes.{Cleared}
use Rattle.book.proofs.Clearing.{sound_fresh}
use Rattle.book.proofs.Booked.{laid_of}

module _ (xs ys : List Row) (C : Cleared xs ys (min (length xs) 1024)) where
  abbrev made : Contents
  made = record { rows = ys; names = 0; nodes = 0; equations = 0; priced = false }

  pub made_state : state_of made ≡ fresh (min (length xs) 1024)
  made_state = ap (λ (n : ℕ). fresh (min n 1024)) C.long

  pub made_laid : Remade xs made
  made_laid = record { long = C.long; laid = laid_of made (sound_fresh xs ys C); past = C.past }
