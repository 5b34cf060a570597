-- A class is unmarked and swept; with none marked nothing waits.
use Rattle.std.proofs.Common.{ℕ, length, sym, ◌∙◌, subst}
use Rattle.book.specs.Closing.{Waits}
use Rattle.book.proofs.Owing.{owes_start, level_of}
use Rattle.book.proofs.Sweeps.{closed_turn, mark_at, no_mark}
use Rattle.book.proofs.closing.Classes.close.Goals as goal

pub sweep-requires : goal.sweep-requires
sweep-requires c =
    let I = c.loop-d.invariant in
    let s = c.loop-d.self in
    owes_start s.rows.now (length s.rows.now) s.dirty c.in-Some.d (subst (λ (k : ℕ). Waits s.rows.now k s.dirty) (sym I.0.only.long) I.1)

pub loop-d-smaller : goal.loop-d-smaller
loop-d-smaller c =
    let f = mark_at c.loop-d.self.dirty c.in-Some.d c.in-Some.ensures in
    (closed_turn c.in-Some.d _ c.loop-d.self.rows.now _ _ c.loop-d.self.dirty _ f.0 f.1 c.loop-d.invariant.0 c.sweep.ensures.turned).1

pub loop-d-preserved : goal.loop-d-preserved
loop-d-preserved c =
    let f = mark_at c.loop-d.self.dirty c.in-Some.d c.in-Some.ensures in
    let new = c.sweep.new.self in (
      (closed_turn c.in-Some.d _ c.loop-d.self.rows.now _ _ c.loop-d.self.dirty _ f.0 f.1 c.loop-d.invariant.0 c.sweep.ensures.turned).0,
      subst (λ (k : ℕ). Waits new.rows.now k new.dirty) c.loop-d.invariant.0.only.long c.sweep.ensures.waits,
      c.sweep.ensures.lent ∙ c.loop-d.invariant.2,
    )

pub returns-clause-level : goal.returns-clause-level
returns-clause-level c =
    let s = c.loop-d.self in
    level_of s.rows.now (length c.args.self.now.rows.now) s.dirty c.loop-d.invariant.1 (no_mark s.dirty c.in_default.ensures)
