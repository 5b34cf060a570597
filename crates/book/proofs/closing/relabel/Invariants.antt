-- The rows before the index are moved.
use Rattle.book.specs.Rows.{Relabelled}
use Rattle.book.proofs.closing.relabel.Given as goal

abbrev pub invariant-loop-row : goal.invariant-loop-row
invariant-loop-row l = Relabelled l.initial.rows l.rows l.row-index l.keep l.gone
