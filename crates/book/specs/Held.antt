-- What a table of the code holds, and what is true of every book. Cited by the contracts of the calls.
--
-- | word     | meaning                                                                        |
-- |----------|--------------------------------------------------------------------------------|
-- | contents | the rows as they are now, the counts, and whether a pricing is in force        |
-- | state    | the state that they hold                                                       |
-- | Kept     | the state is a book, it is laid in the rows, and the algorithms find them sound |
-- | Holds    | the invariant of the type `Book`                                               |
use Rattle.theory.specs.Books.{State, Book}
use Rattle.book.specs.declared.table.Table.{Table}
use Rattle.book.specs.Layout.{Contents, state_of, Laid}
use Rattle.book.specs.Invariant.{Sound}

abbrev pub contents : Table → Contents
contents t = record { rows = t.rows.now; names = t.names; nodes = t.nodes; equations = t.equations; priced = t.priced }

abbrev pub state : Table → State
state t = state_of (contents t)

pub record Kept (s : Contents) : Type 0 where
  pub book : Book (state_of s)
  pub laid : Laid s
  pub sound : Sound s

abbrev pub Holds : Table → Type 0
Holds t = ∥ Kept (contents t) ∥₁
