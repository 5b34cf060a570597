-- A node's class is the lowest node that is equal to it.
use Rattle.std.proofs.Common.{refl, ap, arith}
use Rattle.theory.specs.Calls.{granted, Classing.classed}
use Rattle.book.specs.Held.{contents}
use Rattle.book.proofs.Whole.{sound_of}
use Rattle.book.proofs.States.{nodes_long}
use Rattle.book.proofs.Booked.{lowest}
use Rattle.book.proofs.book.Book.class.Goals as goal

pub returns : goal.returns
returns c =
    let s = contents c.args.self.now.table in
    let K = sound_of s c.args.self.now.holds in
    let f = c.in_ok-class_of.ensures in
    record { answer = classed (omega (arith, nodes_long s K, f.0)) _ (lowest s K c.args.a.0 f.0) (ap granted f.1) refl }
