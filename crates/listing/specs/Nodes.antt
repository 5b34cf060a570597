-- The rows of a book's nodes, lent without the rows behind them. Cited by the contracts of marking and of writing.
--
-- | word           | meaning                                                                                            |
-- |----------------|----------------------------------------------------------------------------------------------------|
-- | state_in       | the state that has the rows' nodes and classes, and nothing else: a grammar asks for no more       |
-- | part_at        | the part of a node at a place                                                                      |
use Rattle.std.specs.Prelude.{ℕ, false, List, [], map, length, ◌==◌, if◌then◌else◌}
use Rattle.theory.specs.Books.{State}
use Rattle.book.specs.declared.row.Row.{Row}
use Rattle.book.specs.declared.row.Node.{Node}
use Rattle.book.specs.Layout.{entry_of}

abbrev pub state_in : List Row → State
state_in xs =
    record {
      names = [];
      nodes = map (λ (r : Row). entry_of r.node) xs;
      equated = [];
      classes = map (λ (r : Row). r.node.class) xs;
      choices = [];
      priced = false;
      room = length xs;
    }

-- the left part at place 0, and the right part at any other
abbrev pub part_at : Node → ℕ → ℕ
part_at x i = if i == 0 then x.left else x.right
