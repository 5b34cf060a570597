-- The entry at `at` changes places with its parent until it no longer goes before it.
use Rattle.std.proofs.Common.{◌-◌, length, arith, rules}
use Rattle.std.proofs.lemmas.List.Sorted.{IsPermutation-refl, IsPermutation-trans}
use Rattle.queue.specs.Queues.{after}
use Rattle.queue.proofs.Sifts.{starts, up, ranks, told}
use Rattle.queue.proofs.sift.sift_up.Goals as goal

pub loop-parent-init : goal.loop-parent-init
loop-parent-init g c =
    let s = c.args.s.now in
    let some = c.requires in record {
      within = omega arith;
      as_long = search rules;
      shuffled = IsPermutation-refl s;
      order = λ rising. starts (after g.R.PriceRule.below) s (length s - 1) (length s) (omega arith) (rising (length s - 1) (omega arith));
    }

pub loop-parent-preserved : goal.loop-parent-preserved
loop-parent-preserved g c =
    let l = c.loop-parent in
    let p = c.in-Some.parent in
    let h = c.in-Some.ensures in
    let below = g.R.PriceRule.below in
    let e = c.swap.ensures in
    let long = e.len in
    let o = ranks below g.met.R.PriceRule.order in
    let t = told below l.s l.at p c.index-s-at.result c.index-s-parent.result l.invariant.within (omega arith) c.index-s-at.is c.index-s-parent.is _ c.if-not-goes_before.ensures in
    record {
      within = omega arith;
      as_long = omega arith;
      shuffled = IsPermutation-trans _ _ _ l.invariant.shuffled e.permutation;
      order = λ rising. rw long (up (after below) o l.s c.swap.new.self p l.at (length l.s) h.0 h.1 l.invariant.within (e.by_index.0, e.by_index.1, e.by_index.2) t (l.invariant.order rising));
    }
