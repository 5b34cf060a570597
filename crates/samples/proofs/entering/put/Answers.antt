-- The naming, and then the entering from where it ends.
use Rattle.std.proofs.Common.{rules}
use Rattle.samples.specs.Putting.{unnamed, named}
use Rattle.samples.proofs.entering.put.Goals as goal

pub returns-in_err-symbol-clause-answer : goal.returns-in_err-symbol-clause-answer
returns-in_err-symbol-clause-answer c = unnamed _ c.in_err-symbol.ensures.answer (search rules)

pub returns-clause-answer : goal.returns-clause-answer
returns-clause-answer c = named _ _ c.in_ok-symbol.ensures.answer c.enter.ensures.answer
