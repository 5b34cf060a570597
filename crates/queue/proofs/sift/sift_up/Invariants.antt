-- All is heaped but for the entry at `at`, if it was but for the last.
use Rattle.std.proofs.Common.{◌≡◌, ◌<◌, length}
use Rattle.std.specs.List.Sorted.{IsPermutation}
use Rattle.queue.specs.Queues.{after, Rising}
use Rattle.queue.proofs.Sifts.{Up}
use Rattle.queue.proofs.sift.sift_up.Given as goal

abbrev pub invariant-loop-parent : goal.invariant-loop-parent
invariant-loop-parent g l = record {
  within : l.«at» < length l.s;
  as_long : length l.s ≡ length l.initial.s;
  shuffled : IsPermutation l.initial.s l.s;
  order : Rising g.R.PriceRule.below l.initial.s → Up (after g.R.PriceRule.below) l.s l.«at» (length l.s);
}

abbrev pub decreases-loop-parent : goal.decreases-loop-parent
decreases-loop-parent g l = l.«at»
