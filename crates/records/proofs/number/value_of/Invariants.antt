-- The digits to come, behind the total so far, say the number; and the total has no more digits than were read.
use Rattle.std.proofs.Common.{◌≡◌, ◌<◌, drop}
use Rattle.records.specs.Numbers.{value, value_on}
use Rattle.records.proofs.Decimals.{below_digits}
use Rattle.records.proofs.number.value_of.Given as goal

abbrev pub invariant-loop-b : goal.invariant-loop-b
invariant-loop-b l = (value_on l.total (drop l.b-index l.bytes) ≡ value l.bytes) × (l.total < below_digits l.b-index)
