-- A node above the class is compared with all, another owes nothing.
use Rattle.std.proofs.Common.{◌≡◌, ℕ, ◌+◌, List, length, sym, ◌∙◌, subst}
use Rattle.book.specs.declared.row.Row.{Row}
use Rattle.book.specs.declared.closing.Classes.{Classes}
use Rattle.book.specs.Rows.{shape}
use Rattle.book.specs.Closing.{Turned, Owes, Clear}
use Rattle.book.proofs.Merging.{turned_next}
use Rattle.book.proofs.Owing.{owes_clear}
use Rattle.book.proofs.closing.Classes.sweep.Goals as goal
use Rattle.book.proofs.closing.Classes.sweep.Goals.{then-touches, else-touches}

pub loop-i-preserved : goal.loop-i-preserved
loop-i-preserved c =
    let I = c.loop-i.invariant in
    let old = c.args.self.now in
    let now = c.loop-i.self in
    let n = length old.rows.now in
    let d = c.args.d in
    let i = c.loop-i.i in
    let P : Classes → Type 0 = λ z. Turned n old.rows.now z.rows.now old.dirty z.dirty × Owes z.rows.now n z.dirty d (i + 1) 0 × (z.rows.ghost_name ≡ old.rows.ghost_name) in
    elim c.if-touches.branch [
      | then-touches w ↦
          let new = w.settle.new.self in
          subst P (sym w.self-is) (
            turned_next _ _ _ _ _ _ I.0 w.settle.ensures.turned,
            subst (λ (k : ℕ). Owes now.rows.now k now.dirty d i 0 → Owes new.rows.now k new.dirty d (i + 1) 0) I.0.only.long (w.settle.ensures.owes d) I.1,
            w.settle.ensures.lent ∙ I.2,
          )
      | else-touches w ↦
          subst P (sym w.self-is) (
            I.0,
            owes_clear now.rows.now n now.dirty d i I.1 (subst (λ (rs : List Row). Clear rs d (shape rs i)) c.nodes.ensures (c.touches.ensures w.if-touches.false)),
            I.2,
          )
    ]
