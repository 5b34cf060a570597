-- Each call is one more of the run.
use Rattle.std.proofs.Common.{refl, arith, true, false}
use Rattle.samples.specs.Running.{none, more}
use Rattle.samples.proofs.Runs.{Run-within}
use Rattle.samples.proofs.filling.granted.Goals as goal
use Rattle.samples.proofs.filling.granted.Goals.{then-call, else-call}

pub loop-i-init : goal.loop-i-init
loop-i-init g c = none 0 0 _ refl refl refl

pub overflow_add-count : goal.overflow_add-count
overflow_add-count g c = omega (arith, Run-within _ _ _ _ _ c.loop-i.invariant)

pub loop-i-preserved : goal.loop-i-preserved
loop-i-preserved g c =
    elim c.if-call.branch [
      | then-call w ↦ more _ _ _ c.loop-i.i c.loop-i.count c.loop-i.book true c.loop-i.invariant (record { before = _; after = _; met = w.if-call.ensures; old = refl; new = refl }) refl w.count-is
      | else-call w ↦ more _ _ _ c.loop-i.i c.loop-i.count c.loop-i.book false c.loop-i.invariant (record { before = _; after = _; met = w.if-call.ensures; old = refl; new = refl }) refl w.count-is
    ]
