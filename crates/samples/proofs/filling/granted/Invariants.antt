-- The calls made so far are a run.
use Rattle.samples.specs.Running.{Run, Gives}
use Rattle.samples.proofs.filling.granted.Given as goal

abbrev pub invariant-loop-i : goal.invariant-loop-i
invariant-loop-i g l = Run (Gives (λ b i r c. goal.F-post g l.call b i r c)) l.initial.book l.i l.count l.book
