-- What was offered so far, and that each node so far that is ready has its flag.
use Rattle.std.proofs.Common.{◌≡◌, ℕ, ◌<◌, true}
use Rattle.pricing.specs.Nodes.{links, ready_at, bare_rule}
use Rattle.pricing.specs.Offers.{Offers, flag}
use Rattle.pricing.proofs.waiting.Waiting.offer_leaves.Given as goal

abbrev pub invariant-loop-i : goal.invariant-loop-i
invariant-loop-i g l =
    record {
      nodes : l.self.nodes ≡ l.initial.self.nodes;
      offered : Offers (bare_rule g.R.PriceRule.below g.R.PriceRule.alone g.R.PriceRule.one g.R.PriceRule.two l.rule) l.settled
          l.initial.self.queued l.self.queued l.initial.self.queue l.self.queue;
      seen : (j : ℕ) → j < l.i → ready_at l.settled.nodes.rows.now (links l.settled.chosen) j ≡ true → flag l.self.queued j ≡ true;
    }
