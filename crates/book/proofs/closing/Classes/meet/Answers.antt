-- Two nodes that are congruent are of one class after.
use Rattle.std.proofs.Common.{length, sym, ◌∙◌, arith}
use mathlib.Core.Bool.{false≢true}
use Rattle.book.proofs.Signs.{alike_told}
use Rattle.book.proofs.Owing.{owes_next}
use Rattle.book.proofs.Sweeps.{met}
use Rattle.book.proofs.closing.Classes.meet.Goals.{else-self-i-via-then-self-i+else-alike, else-self-i-via-else-self-i}
use Rattle.book.proofs.closing.Classes.meet.Goals as goal

pub returns-then-alike : goal.returns-then-alike
returns-then-alike c =
    let s = c.args.self.now in
    let D = alike_told s.rows.now c.nodes.result.rows.now c.args.i c.args.j _ c.nodes.ensures s.tidy c.requires.0 c.requires.1 c.alike.ensures in
    let m = met _ _ _ _ _ _ _ (omega arith) s.room s.tidy s.based c.requires.0 c.requires.1 c.join.ensures.joined (D.0 c.if-alike.true) in
    record { turned = m.0; owes = m.1; lent = c.join.ensures.lent }

pub returns-else-self-i-clause-owes : goal.returns-else-self-i-clause-owes
returns-else-self-i-clause-owes c =
    let s = c.args.self.now in
    λ d O. owes_next s.rows.now (length s.rows.now) s.dirty d c.args.i c.args.j O (elim c.else-self-i.branch [
      | else-self-i-via-then-self-i+else-alike w ↦
          λ e. absurd (false≢true (sym w.if-alike.false
          ∙ (alike_told s.rows.now w.nodes.result.rows.now c.args.i c.args.j _ w.nodes.ensures s.tidy c.requires.0 c.requires.1 w.alike.ensures).1 e))
      | else-self-i-via-else-self-i w ↦ λ e. w.if-self-i.false
    ])
