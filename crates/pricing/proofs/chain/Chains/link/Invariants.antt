-- The nodes so far are linked, and from the next on no link is set.
use Rattle.std.proofs.Common.{◌≡◌, ℕ, ◌≤◌, None, length}
use Rattle.pricing.specs.Nodes.{links}
use Rattle.pricing.specs.Chains.{key, link_at, Linked}
use Rattle.pricing.proofs.chain.Chains.link.Given as goal

abbrev pub invariant-loop-i : goal.invariant-loop-i
invariant-loop-i l =
    record {
      linked : Linked l.i (key l.side l.nodes.rows.now) (links l.self.first) (links l.self.next);
      clear : (j : ℕ) → l.i ≤ j → link_at (links l.self.next) j ≡ None;
      wide : length l.self.first ≡ 1024;
      long : length l.self.next ≡ 1024;
    }
