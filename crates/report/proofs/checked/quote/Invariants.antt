-- The bytes so far are as they are printed, and the others as they were copied.
use Rattle.std.proofs.Common.{◌≡◌, ◌++◌, map, take, drop}
use Rattle.report.specs.Printed.{visible}
use Rattle.report.proofs.checked.quote.Given as goal

abbrev pub invariant-loop-b : goal.invariant-loop-b
invariant-loop-b l = l.quoted ≡ map visible (take l.b-index l.initial.quoted) ++ drop l.b-index l.initial.quoted
