-- The relations of the calls leave nothing open.
use Rattle.theory.proofs.Pinned.{pinned_lent}
use Rattle.theory.proofs.lent_calls_leave_nothing_open.Goals as goal

pub returns : goal.returns
returns c = pinned_lent
