-- The worked examples of equality.
use Rattle.theory.proofs.Examples.{stand}
use Rattle.theory.proofs.examples_stand.Goals as goal

pub returns : goal.returns
returns c = stand
