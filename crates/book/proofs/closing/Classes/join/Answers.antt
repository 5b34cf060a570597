-- The classes go by their nodes still.
use Rattle.std.proofs.Common.{true, length, sym, subst, arith}
use Rattle.std.proofs.lemmas.List.{length-set}
use Rattle.book.specs.Rows.{Tidy, Based}
use Rattle.book.proofs.Merging.{reclassed_of, join_based}
use Rattle.book.proofs.Sweeps.{tidy_still}
use Rattle.book.proofs.closing.Classes.join.Goals as goal

pub invariant_of-self : goal.invariant_of-self
invariant_of-self c =
    let s = c.args.self.now in
    let R = c.relabel.ensures in
    let z = R.long in
    let n = length s.rows.now in
    let tidy = tidy_still n s.rows.now c.relabel.new.rows (reclassed_of s.rows.now c.relabel.new.rows n _ _ R) s.tidy in
    let based = join_based s.rows.now c.relabel.new.rows n c.args.i c.args.j _ _ s.based c.requires.0 c.requires.1 c.if-a-b.false c.min-keep.ensures c.max-gone.ensures R in
    record {
      few = omega (arith, s.few);
      room = omega (arith, s.room, length-set s.dirty c.min-keep.result true);
      tidy = subst (Tidy c.relabel.new.rows) (sym z) tidy;
      based = subst (Based c.relabel.new.rows) (sym z) based;
    }
