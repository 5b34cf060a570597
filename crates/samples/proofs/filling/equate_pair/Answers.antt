-- The answer of the equating says whether it is granted.
use Rattle.std.proofs.Common.{rules}
use Rattle.samples.proofs.Asking.{asked_pair}
use Rattle.samples.proofs.filling.equate_pair.Goals as goal

pub returns-in-Some-clause-answer : goal.returns-in-Some-clause-answer
returns-in-Some-clause-answer c = asked_pair c.args.pair _ _ _ _ _ c.in-Some.is (search rules) c.equate.ensures.answer
