-- Only classes that are reached are marked, the node's own among them; each turn marks one more.
use Rattle.theory.specs.Books.{class}
use Rattle.listing.specs.Nodes.{state_in}
use Rattle.listing.specs.Marking.{OnlyReached, IsMarked, zeros}
use Rattle.listing.proofs.mark.mark.Given as goal

abbrev pub invariant-loop-k : goal.invariant-loop-k
invariant-loop-k l =
    record {
      reached : OnlyReached (state_in l.nodes.rows.now) l.node l.bytes;
      own : IsMarked l.bytes (class (state_in l.nodes.rows.now) l.node);
    }

abbrev pub decreases-loop-k : goal.decreases-loop-k
decreases-loop-k l = zeros l.bytes
