-- The choices before the index are 0.
use Rattle.book.specs.Rows.{Unchosen}
use Rattle.book.proofs.closing.unprice.Given as goal

abbrev pub invariant-loop-row : goal.invariant-loop-row
invariant-loop-row l = Unchosen l.initial.rows l.rows l.row-index
