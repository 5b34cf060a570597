-- The steps towards settled choices, at the function's own type of costs.
use Rattle.theory.proofs.Settling.{settling}
use Rattle.theory.proofs.settling_steps.Goals as goal

pub returns : goal.returns
returns g c = settling _
