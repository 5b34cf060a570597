-- Settled choices spell cheapest builds, at the function's own type of costs.
use Rattle.theory.proofs.Costs.{cheapest_choices_lem}
use Rattle.theory.proofs.cheapest_choices.Goals as goal

pub returns : goal.returns
returns g c = cheapest_choices_lem _
