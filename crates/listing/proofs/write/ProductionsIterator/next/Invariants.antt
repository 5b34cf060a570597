-- The productions that are left are those that were left when the call began.
use Rattle.std.proofs.Common.{◌≡◌, ◌-◌}
use Rattle.listing.proofs.Left.{left}
use Rattle.listing.proofs.write.ProductionsIterator.next.Given as goal

abbrev pub invariant-loop-at : goal.invariant-loop-at
invariant-loop-at l = record { marking : l.self.marking ≡ l.fn.self.marking; same : left l.self ≡ left l.fn.self }

abbrev pub decreases-loop-at : goal.decreases-loop-at
decreases-loop-at l = l.self.classes.end - l.self.classes.start
