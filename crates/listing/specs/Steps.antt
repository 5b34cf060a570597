-- What the steps of a listing promise to each other: first the refusals, then the writing, and what was written. Cited by the contracts
-- of the inner calls.
--
-- | word     | meaning                                                                                              |
-- |----------|------------------------------------------------------------------------------------------------------|
-- | Checked  | why a node cannot be listed, of so many nodes and with so many marking bytes, or that it can         |
-- | Writing  | productions are written from the start of an output, or there is no room for all and it is as before |
-- | Spells   | some productions, as a grammar, spell exactly the builds that are equal to a node's build            |
use Rattle.std.specs.Prelude.{◌≡◌, ℕ, ◌<◌, ◌≤◌, ◌⊎◌, ◌↔◌, List, ◌++◌, map, length, drop, Ok, Err, Result}
use Rattle.text.specs.declared.cause.BookCause.{BookCause}
use Rattle.text.specs.declared.cause.BookCause.TheVariants as cause
use Rattle.theory.specs.Builds.{Build}
use Rattle.theory.specs.Equality.{Equal}
use Rattle.theory.specs.Books.{State, build, class, equations_in}
use Rattle.theory.specs.Productions as theory
use Rattle.theory.specs.Calls.{Answer, granted, refused}
use Rattle.listing.specs.declared.production.Production.{Production}
use Rattle.listing.specs.Told.{plain}

abbrev pub Checked : ℕ → ℕ → ℕ → Result (Unit {0}) BookCause → Type 0
Checked nodes node bytes (Err e) = ((nodes ≤ node) × (e ≡ cause.NoNode)) ⊎ ((node < nodes) × (bytes < nodes) × (e ≡ cause.TooShort))
Checked nodes node bytes (Ok x) = (node < nodes) × (nodes ≤ bytes)

pub data Writing (ps : List theory.Production) (before : List Production) (answer : Answer ℕ) (after : List Production) : Type 0 where
  too_long : length before < length ps → answer ≡ refused 17 → after ≡ before → Writing ps before answer after
  all : length ps ≤ length before → answer ≡ granted (length ps) → map plain after ≡ ps ++ drop (length ps) (map plain before)
      → Writing ps before answer after

abbrev pub Spells : State → ℕ → List theory.Production → Type 0
Spells s n ps = (u : Build) → Equal (equations_in s) u (build s n) ↔ theory.Derives s ps u (class s n)
