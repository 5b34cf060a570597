-- The steps towards a closed table.
use Rattle.theory.proofs.Closing.{closing}
use Rattle.theory.proofs.closing_steps.Goals as goal

pub returns : goal.returns
returns c = closing
