use Rattle.std.proofs.Common.{ℕ, Some, length, set, ap, ◌∙◌, arith}
use Rattle.pricing.specs.Nodes.{links}
use Rattle.pricing.proofs.Chains.{set_link, choices_link}
use Rattle.pricing.proofs.settled.Settled.choose.Goals as goal

pub invariant_of-self : goal.invariant_of-self
invariant_of-self g c =
    let s = c.args.self.now in
    record {
      room = s.room;
      choices = choices_link (length s.nodes.rows.now) c.class_of-k.result _ s.chosen c.to.result s.choices c.to.ensures (omega arith);
    }

pub returns-clause-after : goal.returns-clause-after
returns-clause-after g c =
    let s = c.args.self.now in
    let e = c.class_of-k.ensures.value in
    record {
      chosen = set_link s.chosen c.class_of-k.result c.args.e.node c.to.result c.to.ensures
          ∙ ap (λ (k : ℕ). set (links s.chosen) k (Some c.args.e.node)) e;
      costs = ap (λ (k : ℕ). set s.costs.now k c.args.e.cost) e;
    }
