-- The entry at `at` changes places with its first child until that no longer goes before it.
use Rattle.std.proofs.Common.{length, arith}
use Rattle.std.proofs.lemmas.List.Sorted.{IsPermutation-trans}
use Rattle.queue.specs.Queues.{after}
use Rattle.queue.proofs.Sifts.{rests, sinks, ranks, told}
use Rattle.queue.proofs.sift.sift_down.Goals as goal

pub returns-then-not-goes_before-clause-order : goal.returns-then-not-goes_before-clause-order
returns-then-not-goes_before-clause-order g c =
    let l = c.loop-child in
    let k = c.in-Some.child in
    let f = c.in-Some.ensures in
    let below = g.R.PriceRule.below in
    let o = ranks below g.met.R.PriceRule.order in
    let t = told below l.s k l.at c.index-s-child.result c.index-s-at.result f.within (omega arith) c.index-s-child.is c.index-s-at.is _ c.if-not-goes_before.ensures in
    λ sinking. rests (after below) o l.s l.at k (length l.s) t f.foremost (l.invariant.order sinking)

pub loop-child-preserved : goal.loop-child-preserved
loop-child-preserved g c =
    let l = c.loop-child in
    let k = c.in-Some.child in
    let f = c.in-Some.ensures in
    let below = g.R.PriceRule.below in
    let o = ranks below g.met.R.PriceRule.order in
    let e = c.swap.ensures in
    let long = e.len in
    let t = told below l.s k l.at c.index-s-child.result c.index-s-at.result f.within (omega arith) c.index-s-child.is c.index-s-at.is _ c.if-not-goes_before.ensures in
    record {
      as_long = omega arith;
      shuffled = IsPermutation-trans _ _ _ l.invariant.shuffled e.permutation;
      order = λ sinking. rw long (sinks (after below) o l.s c.swap.new.self l.at k (length l.s) f.child.0 f.child.1 f.within (e.by_index.0, e.by_index.1, e.by_index.2) t f.foremost (l.invariant.order sinking));
    }
