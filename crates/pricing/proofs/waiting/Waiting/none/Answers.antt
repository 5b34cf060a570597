use Rattle.std.proofs.Common.{false, length, replicate, ap, arith}
use Rattle.pricing.proofs.Nodes.{same_all}
use Rattle.pricing.proofs.Settles.{empty_waits}
use Rattle.pricing.proofs.waiting.Waiting.none.Goals as goal

pub invariant_of-result : goal.invariant_of-result
invariant_of-result g c =
    let q = c.over.ensures in
    let few = c.args.nodes.few in
    record {
      waits = empty_waits g.R.PriceRule.below (length c.args.nodes.rows.now) (replicate 1024 false) c.over.result (q.order g.R.PriceRule.below)
          (omega (arith, ap length q.same)) (omega arith) q.empty (λ i h. same_all 1024 i false);
    }

pub returns-clause-low : goal.returns-clause-low
returns-clause-low g c = λ i. same_all 1024 i false
