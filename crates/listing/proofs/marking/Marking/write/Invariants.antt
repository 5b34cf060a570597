-- The productions that came so far stand at the start of the output, and the others are left.
use Rattle.std.proofs.Common.{◌≡◌, ◌≤◌, ◌++◌, map, length, take, drop}
use Rattle.std.specs.Iterator.Adapters.{enumerate_source, enumerate_count}
use Rattle.listing.specs.Told.{plain}
use Rattle.listing.specs.Nodes.{state_in}
use Rattle.listing.specs.Order.{listing}
use Rattle.listing.proofs.Left.{left}
use Rattle.listing.proofs.marking.Marking.write.Given as goal

abbrev pub invariant-loop-to : goal.invariant-loop-to
invariant-loop-to l =
    let ps = listing (state_in l.self.nodes.rows.now) l.self.bytes.now in
    let n = enumerate_count l.to-iterator in
    record {
      place : n ≤ length ps;
      rest : drop n ps ≡ left (enumerate_source l.to-iterator);
      written : map plain l.out ≡ take n ps ++ drop n (map plain l.initial.out);
    }
