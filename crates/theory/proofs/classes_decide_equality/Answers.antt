-- Classes decide equality, by completeness.
use Rattle.theory.proofs.Grammar.{completeness}
use Rattle.theory.proofs.classes_decide_equality.Goals as goal

pub returns : goal.returns
returns c = completeness
