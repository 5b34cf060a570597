use Rattle.std.proofs.Common.{ℕ, Bool, ◌∙◌}
use Rattle.book.specs.Rows.{row, bare}
use Rattle.pricing.specs.Nodes.{links, ready_at, bare_rule}
use Rattle.pricing.proofs.Nodes.{leaf_ready}
use Rattle.pricing.proofs.Offers.{seen_more, offers_then}
use Rattle.pricing.proofs.waiting.Waiting.offer_leaves.Goals as goal
use Rattle.pricing.proofs.waiting.Waiting.offer_leaves.Goals.{in-Zero, in_default}

pub loop-i-preserved : goal.loop-i-preserved
loop-i-preserved g c =
    let P = g.R.PriceRule in
    let s = c.args.settled.now in
    let xs = s.nodes.rows.now in
    let i = c.loop-i.i in
    let w = c.args.self.now in
    let w' = c.loop-i.self in
    let I = c.loop-i.invariant in
    let ready : ℕ → Bool = ready_at xs (links s.chosen) in
    elim c.match-parts_of.branch [
      | in-Zero v ↦
          let w'' = v.offer.new.self in
          let B = v.offer.ensures in
          rw v.self-is (record {
            nodes = B.nodes ∙ I.nodes;
            offered = offers_then (bare_rule P.below P.alone P.one P.two c.args.rule.now) s w.queued w'.queued w''.queued w.queue w'.queue w''.queue
                I.offered B.offered;
            seen = seen_more ready w'.queued w''.queued i B.offered.up I.seen B.seen;
          })
      | in_default v ↦
          rw v.self-is (record {
            nodes = I.nodes;
            offered = I.offered;
            seen = seen_more ready w'.queued w'.queued i (λ j e. e) I.seen
                (λ r. absurd (v.in_default.not-Zero (leaf_ready xs (links s.chosen) i (bare (row xs i).node.symbol) c.parts_of.result c.requires.clear c.parts_of.ensures.shape r)));
          })
    ]
