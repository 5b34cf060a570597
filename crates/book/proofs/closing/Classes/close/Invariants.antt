-- Congruent nodes wait for a marked class; each step makes the classes and marks lighter.
use Rattle.std.proofs.Common.{◌≡◌, length}
use Rattle.book.specs.Closing.{Waits, Turned, weight}
use Rattle.book.proofs.closing.Classes.close.Given as goal

abbrev pub invariant-loop-d : goal.invariant-loop-d
invariant-loop-d l =
    Turned (length l.initial.self.rows.now) l.initial.self.rows.now l.self.rows.now l.initial.self.dirty l.self.dirty
    × Waits l.self.rows.now (length l.initial.self.rows.now) l.self.dirty
    × (l.self.rows.ghost_name ≡ l.initial.self.rows.ghost_name)

abbrev pub decreases-loop-d : goal.decreases-loop-d
decreases-loop-d l = weight (length l.initial.self.rows.now) l.self.rows.now l.self.dirty
