-- Between two stages.
use Rattle.std.proofs.Common.{◌≡◌, ◌+◌, length}
use Rattle.theory.specs.Steps.{falses}
use Rattle.pricing.specs.Nodes.{bare_rule}
use Rattle.pricing.specs.Offers.{flag}
use Rattle.pricing.proofs.Settles.{Between}
use Rattle.pricing.proofs.settle.stages.Given as goal

abbrev pub invariant-loop-e : goal.invariant-loop-e
invariant-loop-e g l =
    record {
      lent : l.settled.costs.ghost_name ≡ l.initial.settled.costs.ghost_name;
      between : Between (bare_rule g.R.PriceRule.below g.R.PriceRule.alone g.R.PriceRule.one g.R.PriceRule.two l.rule) l.initial.settled.nodes l.initial.settled.costs.now
          l.initial.settled.costs.ghost_name l.settled l.ready.queued l.ready.queue;
      same : l.ready.nodes ≡ l.settled.nodes;
      wide : length l.settled.chosen ≡ 1024;
    }

abbrev pub decreases-loop-e : goal.decreases-loop-e
decreases-loop-e g l = l.ready.queue.count + falses (flag l.ready.queued) (length l.initial.settled.nodes.rows.now)
