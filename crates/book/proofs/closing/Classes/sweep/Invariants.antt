-- The nodes before i that are above the class are compared with all.
use Rattle.std.proofs.Common.{◌≡◌, length}
use Rattle.book.specs.Closing.{Owes, Turned}
use Rattle.book.proofs.closing.Classes.sweep.Given as goal

abbrev pub invariant-loop-i : goal.invariant-loop-i
invariant-loop-i l =
    Turned (length l.initial.self.rows.now) l.initial.self.rows.now l.self.rows.now l.initial.self.dirty l.self.dirty
    × Owes l.self.rows.now (length l.initial.self.rows.now) l.self.dirty l.d l.i 0
    × (l.self.rows.ghost_name ≡ l.initial.self.rows.ghost_name)
