use Rattle.std.proofs.Common.{[], length, sym}
use Rattle.pricing.specs.Nodes.{links, ready_at, bare_rule, cost_from}
use Rattle.pricing.proofs.Offers.{waits_of, offered_in, waits_in}
use Rattle.pricing.proofs.waiting.Waiting.offer.Goals as goal

pub invariant_of-self : goal.invariant_of-self
invariant_of-self g c =
    let P = g.R.PriceRule in
    let w = c.args.self.now in
    let s = c.args.settled.now in
    let xs = s.nodes.rows.now in
    let rule = bare_rule P.below P.alone P.one P.two c.args.rule.now in
    let u = c.push.ensures in
    let q' = c.push.new.self in
    let e = c.requires.same in
    record {
      waits = waits_of P.below _ q' s.nodes w.nodes (sym e)
          (waits_in P.below (length xs) (ready_at xs (links s.chosen)) (cost_from rule xs s.costs.now) w.queued w.queue q' c.args.i c.cost_of-cost.result
          c.push.result (waits_of P.below w.queued w.queue w.nodes s.nodes e w.waits) c.requires.here c.if-self-i.false
          (sym {b = ready_at xs (links s.chosen) c.args.i} c.if-not-is_ready.ensures) (c.cost_of-cost.ensures (rule.cost_alone [])) u.value u.after
          (u.order w.waits.order) u.room);
    }

pub returns-clause-offered : goal.returns-clause-offered
returns-clause-offered g c =
    let P = g.R.PriceRule in
    let w = c.args.self.now in
    let s = c.args.settled.now in
    let xs = s.nodes.rows.now in
    let rule = bare_rule P.below P.alone P.one P.two c.args.rule.now in
    let u = c.push.ensures in
    offered_in P.below (length xs) (ready_at xs (links s.chosen)) (cost_from rule xs s.costs.now) w.queued w.queue c.push.new.self c.args.i c.cost_of-cost.result
    c.push.result (waits_of P.below w.queued w.queue w.nodes s.nodes c.requires.same w.waits) c.requires.here c.if-self-i.false
    (sym {b = ready_at xs (links s.chosen) c.args.i} c.if-not-is_ready.ensures) (c.cost_of-cost.ensures (rule.cost_alone [])) u.value u.after
