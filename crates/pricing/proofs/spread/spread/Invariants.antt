use Rattle.pricing.specs.Nodes.{links}
use Rattle.pricing.specs.Settling.{Spread}
use Rattle.pricing.proofs.spread.spread.Given as goal

abbrev pub invariant-loop-i : goal.invariant-loop-i
invariant-loop-i g l = Spread l.initial.rows l.rows l.i (links l.chosen) l.initial.costs l.costs
