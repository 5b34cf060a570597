-- Each call of the closure names the i-th name.
use Rattle.std.proofs.Common.{rules}
use Rattle.book.specs.Held.{state}
use Rattle.book.specs.declared.book.Book.{Book}
use Rattle.samples.specs.Filling.{Names}
use Rattle.samples.proofs.Asking.{asked_name}
use Rattle.samples.proofs.Runs.{Run-map, Run-keeps}
use Rattle.samples.proofs.filling.name_all.Goals as goal

pub returns-clause-answer : goal.returns-clause-answer
returns-clause-answer c =
    Run-map (λ (b : Book). state b.table) _ Names (λ i x ok y h. search (rules, asked_name)) _ _ _ _ c.granted.ensures

pub returns-clause-lent : goal.returns-clause-lent
returns-clause-lent c =
    Run-keeps (λ (b : Book). b.table.rows.ghost_name) _ (λ i x ok y h. search rules) _ _ _ _ c.granted.ensures
