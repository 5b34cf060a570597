-- What was offered so far, and how far the chain was walked.
use Rattle.std.proofs.Common.{◌≡◌, length}
use Rattle.pricing.specs.Nodes.{links, ready_at, bare_rule, one_more}
use Rattle.pricing.specs.Offers.{Offers}
use Rattle.pricing.proofs.Chains.{Walked}
use Rattle.pricing.proofs.waiting.Waiting.offer_chain.Given as goal

abbrev pub invariant-loop-at : goal.invariant-loop-at
invariant-loop-at g l =
    record {
      nodes : l.self.nodes ≡ l.initial.self.nodes;
      offered : Offers (bare_rule g.R.PriceRule.below g.R.PriceRule.alone g.R.PriceRule.one g.R.PriceRule.two l.rule) l.settled
          l.initial.self.queued l.self.queued l.initial.self.queue l.self.queue;
      walked : Walked (length l.settled.nodes.rows.now) l.k (links l.chains.first) (links l.chains.next) (ready_at l.settled.nodes.rows.now (links l.settled.chosen))
          l.self.queued l.at;
    }

abbrev pub decreases-loop-at : goal.decreases-loop-at
decreases-loop-at g l = one_more l.at
