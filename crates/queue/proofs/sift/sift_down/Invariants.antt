-- All is heaped but for the entry at `at`, if it was but for the first.
use Rattle.std.proofs.Common.{◌≡◌, ◌-◌, length}
use Rattle.std.specs.List.Sorted.{IsPermutation}
use Rattle.queue.specs.Queues.{after, Sinking}
use Rattle.queue.proofs.Sifts.{Down}
use Rattle.queue.proofs.sift.sift_down.Given as goal

abbrev pub invariant-loop-child : goal.invariant-loop-child
invariant-loop-child g l = record {
  as_long : length l.s ≡ length l.initial.s;
  shuffled : IsPermutation l.initial.s l.s;
  order : Sinking g.R.PriceRule.below l.initial.s → Down (after g.R.PriceRule.below) l.s l.«at» (length l.s);
}

abbrev pub decreases-loop-child : goal.decreases-loop-child
decreases-loop-child g l = length l.initial.s - l.«at»
