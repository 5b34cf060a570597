-- Node i is compared with the nodes before j.
use Rattle.std.proofs.Common.{◌≡◌, ℕ, length}
use Rattle.book.specs.Closing.{Owes, Turned}
use Rattle.book.proofs.closing.Classes.settle.Given as goal

abbrev pub invariant-loop-j : goal.invariant-loop-j
invariant-loop-j l =
    Turned (length l.initial.self.rows.now) l.initial.self.rows.now l.self.rows.now l.initial.self.dirty l.self.dirty
    × ((d : ℕ) → Owes l.initial.self.rows.now (length l.initial.self.rows.now) l.initial.self.dirty d l.i 0
    → Owes l.self.rows.now (length l.initial.self.rows.now) l.self.dirty d l.i l.j)
    × (l.self.rows.ghost_name ≡ l.initial.self.rows.ghost_name)
