-- Each call of the closure equates the i-th pair, or nothing.
use Rattle.std.proofs.Common.{rules}
use Rattle.book.specs.Held.{state}
use Rattle.book.specs.declared.book.Book.{Book}
use Rattle.samples.specs.Filling.{Equates}
use Rattle.samples.proofs.Asking.{along_pair}
use Rattle.samples.proofs.Runs.{Run-map, Run-keeps}
use Rattle.samples.proofs.filling.equate_all.Goals as goal

pub returns-clause-answer : goal.returns-clause-answer
returns-clause-answer c =
    Run-map (λ (b : Book). state b.table) _ (Equates c.args.shape c.args.rows) (λ i x ok y h. search (rules, along_pair)) _ _ _ _ c.granted.ensures

pub returns-clause-lent : goal.returns-clause-lent
returns-clause-lent c =
    Run-keeps (λ (b : Book). b.table.rows.ghost_name) _ (λ i x ok y h. search rules) _ _ _ _ c.granted.ensures
