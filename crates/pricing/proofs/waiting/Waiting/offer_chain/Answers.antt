use Rattle.std.proofs.Common.{◌<◌, length, refl, sym, ap, ◌∙◌, subst, arith}
use Rattle.pricing.specs.Nodes.{links, ready_at, bare_rule, one_more}
use Rattle.pricing.proofs.Offers.{offers_none, offers_then}
use Rattle.pricing.proofs.Chains.{link_is, Walked, walk_start, walk_on, walk_end}
use Rattle.pricing.proofs.waiting.Waiting.offer_chain.Goals as goal

pub loop-at-init : goal.loop-at-init
loop-at-init g c =
    let P = g.R.PriceRule in
    let s = c.args.settled.now in
    let w = c.args.self.now in
    let n = length s.nodes.rows.now in
    let ch = c.args.chains.now in
    let ready = ready_at s.nodes.rows.now (links s.chosen) in
    record {
      nodes = refl;
      offered = offers_none (bare_rule P.below P.alone P.one P.two c.args.rule.now) s w.queued w.queue;
      walked = subst (Walked n c.args.k (links ch.first) (links ch.next) ready w.queued) (sym (c.node-at.ensures ∙ link_is ch.first c.args.k))
          (walk_start n c.args.k (links ch.first) (links ch.next) ready w.queued c.requires.chained);
    }

pub loop-at-smaller : goal.loop-at-smaller
loop-at-smaller g c =
    let i = c.in-Some.i in
    let ch = c.args.chains.now in
    let here : i < length c.args.settled.now.nodes.rows.now = omega (arith, c.loop-at.invariant.walked.within, ap one_more c.in-Some.is) in
    omega (arith, ap one_more c.in-Some.is, ap one_more (c.node-at-in-Some.ensures ∙ link_is ch.next i), c.requires.chained.next_in i here)

pub loop-at-preserved : goal.loop-at-preserved
loop-at-preserved g c =
    let P = g.R.PriceRule in
    let s = c.args.settled.now in
    let w = c.args.self.now in
    let w' = c.loop-at.self in
    let w'' = c.offer.new.self in
    let A = c.loop-at.invariant in
    let B = c.offer.ensures in
    let ch = c.args.chains.now in
    record {
      nodes = B.nodes ∙ A.nodes;
      offered = offers_then (bare_rule P.below P.alone P.one P.two c.args.rule.now) s w.queued w'.queued w''.queued w.queue w'.queue w''.queue
          A.offered B.offered;
      walked = subst (Walked (length s.nodes.rows.now) c.args.k (links ch.first) (links ch.next) (ready_at s.nodes.rows.now (links s.chosen)) w''.queued)
          (sym (c.node-at-in-Some.ensures ∙ link_is ch.next c.in-Some.i))
          (walk_on (length s.nodes.rows.now) c.args.k (links ch.first) (links ch.next) (ready_at s.nodes.rows.now (links s.chosen)) w'.queued w''.queued c.loop-at.at c.in-Some.i
          c.requires.chained A.walked c.in-Some.is B.offered.up B.seen);
    }

pub returns-clause-seen : goal.returns-clause-seen
returns-clause-seen g c =
    let s = c.args.settled.now in
    let n = length s.nodes.rows.now in
    let ch = c.args.chains.now in
    let ready = ready_at s.nodes.rows.now (links s.chosen) in
    let F = c.loop-at.self.queued in
    walk_end n c.args.k (links ch.first) (links ch.next) ready F (subst (Walked n c.args.k (links ch.first) (links ch.next) ready F) c.in_default.is c.loop-at.invariant.walked)
