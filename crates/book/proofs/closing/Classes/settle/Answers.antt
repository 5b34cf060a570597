-- One comparison more, and the last.
use Rattle.std.proofs.Common.{ℕ, ◌+◌, length, ◌∙◌, subst, arith}
use Rattle.book.specs.Closing.{Owes}
use Rattle.book.proofs.Merging.{turned_next}
use Rattle.book.proofs.Owing.{owes_row}
use Rattle.book.proofs.closing.Classes.settle.Goals as goal

pub loop-j-preserved : goal.loop-j-preserved
loop-j-preserved c =
    let I = c.loop-j.invariant in
    let m = c.meet.ensures in
    let now = c.loop-j.self in
    let new = c.meet.new.self in (
      turned_next _ _ _ _ _ _ I.0 m.turned,
      λ d O. subst (λ (k : ℕ). Owes now.rows.now k now.dirty d c.args.i c.loop-j.j → Owes new.rows.now k new.dirty d c.args.i (c.loop-j.j + 1)) I.0.only.long (m.owes d) (I.1 d O),
      m.lent ∙ I.2,
    )

pub returns-clause-owes : goal.returns-clause-owes
returns-clause-owes c =
    let s = c.loop-j.self in
    λ d O. owes_row s.rows.now (length c.args.self.now.rows.now) s.dirty d c.args.i c.loop-j.j (omega arith) (c.loop-j.invariant.1 d O)
