-- The loop over the queue.
use Rattle.std.proofs.Common.{◌≡◌, List, Bool, Option, ℕ, length, ap, ◌∙◌, sym, refl, subst, arith, length-set}
use Rattle.std.proofs.lemmas.List.{length-map}
use Rattle.book.specs.declared.nodes.Nodes.{Nodes}
use Rattle.pricing.specs.declared.chain.Side.TheVariants.{Left, Right}
use Rattle.pricing.specs.Nodes.{bare_rule, node_of, links}
use Rattle.pricing.specs.Chains.{key, Linked}
use Rattle.pricing.proofs.Settles.{Between, begun, node_in_settled, passed_over, taken_up, ended}
use Rattle.pricing.proofs.settle.stages.Goals as goal

pub loop-e-init : goal.loop-e-init
loop-e-init g c =
    let P = g.R.PriceRule in
    let rule = bare_rule P.below P.alone P.one P.two c.args.rule.now in
    let s = c.args.settled.now in
    let w = c.none-ready.result in
    let v = c.none-ready.ensures in
    let w' = c.offer_leaves.new.self in
    let o = c.offer_leaves.ensures in
    record {
      lent = refl;
      between = begun c.args.settled.now.nodes rule s w.queued w'.queued w.queue w'.queue refl c.requires.clear v.low v.empty o.offered
          (λ i h t. o.seen i h);
      same = o.nodes ∙ v.nodes;
      wide = c.requires.wide;
    }

pub is_settled-requires : goal.is_settled-requires
is_settled-requires g c =
    let P = g.R.PriceRule in
    let s = c.loop-e.settled in
    let w = c.loop-e.ready in
    node_in_settled c.args.settled.now.nodes (bare_rule P.below P.alone P.one P.two c.args.rule.now) c.args.settled.now.costs.now c.args.settled.now.costs.ghost_name
    s w.queued w.queue c.loop-e.invariant.between c.in-Some.e c.pop.new.self.queue c.in-Some.ensures.after

pub choose-k-requires : goal.choose-k-requires
choose-k-requires g c =
    let P = g.R.PriceRule in
    let s = c.loop-e.settled in
    let w = c.loop-e.ready in
    node_in_settled c.args.settled.now.nodes (bare_rule P.below P.alone P.one P.two c.args.rule.now) c.args.settled.now.costs.now c.args.settled.now.costs.ghost_name
    s w.queued w.queue c.loop-e.invariant.between c.in-Some.e c.pop.new.self.queue c.in-Some.ensures.after

pub loop-e-preserved-then-is_settled : goal.loop-e-preserved-then-is_settled
loop-e-preserved-then-is_settled g c =
    let P = g.R.PriceRule in
    let rule = bare_rule P.below P.alone P.one P.two c.args.rule.now in
    let lent = c.args.settled.now.costs.ghost_name in
    let s = c.loop-e.settled in
    let w = c.loop-e.ready in
    let w' = c.pop.new.self in
    let I = c.loop-e.invariant in
    let o = c.in-Some.ensures in
    let B : Between rule c.args.settled.now.nodes c.args.settled.now.costs.now lent s w'.queued w.queue
    = subst (λ (F : List Bool). Between rule c.args.settled.now.nodes c.args.settled.now.costs.now lent s F w.queue) (sym o.queued) I.between in
    record {
      lent = I.lent;
      between = passed_over c.args.settled.now.nodes rule c.args.settled.now.costs.now lent s w'.queued w.queue B c.in-Some.e w'.queue o.after c.if-is_settled.ensures;
      same = o.nodes ∙ I.same;
      wide = I.wide;
    }

pub loop-e-preserved : goal.loop-e-preserved
loop-e-preserved g c =
    let P = g.R.PriceRule in
    let rule = bare_rule P.below P.alone P.one P.two c.args.rule.now in
    let N = c.args.settled.now.nodes in
    let xs = N.rows.now in
    let lent = c.args.settled.now.costs.ghost_name in
    let s = c.loop-e.settled in
    let w = c.loop-e.ready in
    let I = c.loop-e.invariant in
    let o = c.in-Some.ensures in
    let u = c.choose-k.ensures in
    let few = N.few in
    let s' = c.choose-k.new.self in
    let w' = c.pop.new.self in
    let w₁ = c.offer_chain.new.self in
    let w₂ = c.offer_chain-in-Some.new.self in
    let e₁ = c.offer_chain.ensures in
    let e₂ = c.offer_chain-in-Some.ensures in
    let e : s'.nodes ≡ N = u.nodes ∙ I.between.nodes in
    let left = subst (λ (M : Nodes). Linked (length M.rows.now) (key Left xs) (links c.link.new.self.first) (links c.link.new.self.next)) (sym e) c.link.ensures in
    let right = subst (λ (M : Nodes). Linked (length M.rows.now) (key Right xs) (links c.link-2.new.self.first) (links c.link-2.new.self.next)) (sym e) c.link-2.ensures in
    let B : Between rule N c.args.settled.now.costs.now lent s w'.queued w.queue
    = subst (λ (F : List Bool). Between rule N c.args.settled.now.costs.now lent s F w.queue) (sym o.queued) I.between in
    record {
      lent = u.lent ∙ I.lent;
      between = taken_up N rule c.args.settled.now.costs.now lent s w'.queued w.queue B c.in-Some.e w'.queue o.after o.first c.if-is_settled.ensures
          (omega (arith, few, I.wide, length-map s.chosen node_of)) s' u.after u.nodes u.lent c.choose-k.result u.value w₁.queued w₂.queued w₁.queue w₂.queue e₁.offered e₂.offered
          (e₁.seen (key Left xs) left) (e₂.seen (key Right xs) right);
      same = e₂.nodes ∙ e₁.nodes ∙ o.nodes ∙ I.same ∙ sym u.nodes;
      wide = omega (arith, ap length u.after.chosen, length-set {A = Option ℕ}, length-map s.chosen node_of, length-map s'.chosen node_of, I.wide);
    }

pub returns : goal.returns
returns g c =
    let P = g.R.PriceRule in
    let w = c.loop-e.ready in
    let I = c.loop-e.invariant in
    record {
      settles = ended c.args.settled.now.nodes (bare_rule P.below P.alone P.one P.two c.args.rule.now) c.args.settled.now.costs.now
          c.args.settled.now.costs.ghost_name c.loop-e.settled w.queued w.queue I.between w.waits.order.0 c.in_default.ensures.first;
      nodes = I.between.nodes;
      lent = I.lent;
    }
