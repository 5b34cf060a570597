-- The first rows of the table are the nodes, and keep what every book's nodes keep.
use Rattle.book.specs.Held.{contents}
use Rattle.book.proofs.Whole.{sound_of}
use Rattle.book.proofs.Front.{front_few, front_tidy, front_based}
use Rattle.book.proofs.book.Book.nodes.Goals as goal

pub invariant_of-result : goal.invariant_of-result
invariant_of-result c =
    let s = contents c.args.self.now.table in
    let K = sound_of s c.args.self.now.holds in
    record { few = front_few s K; tidy = front_tidy s K; based = front_based s K }
