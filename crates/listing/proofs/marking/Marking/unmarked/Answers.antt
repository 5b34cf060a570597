-- A class that is found is missed by a node; if none is found, every node is covered whose class is marked.
use Rattle.std.proofs.Common.{rules, ℕ, ◌<◌, ◌≤◌, Some, None, Option, MatchOption, List, length, arith}
use Rattle.book.specs.declared.row.Row.{Row}
use Rattle.listing.specs.Nodes.{state_in}
use Rattle.listing.specs.Marking.{Missed, Unmarked, UnmarkedFrom}
use Rattle.listing.proofs.Nodes.{nodes_in}
use Rattle.listing.proofs.Ranges.{mapped}
use Rattle.listing.proofs.marking.Marking.unmarked.Goals as goal

of_nodes : (xs : List Row) (ms : List ℕ) (r : Option ℕ)
    → MatchOption r ((j : ℕ) → 0 ≤ j → j < length xs → UnmarkedFrom (state_in xs) ms j None) (λ k. (j : ℕ) × (0 ≤ j) × (j < length xs) × Missed (state_in xs) ms k)
    → Unmarked (state_in xs) ms r
of_nodes xs ms None h = λ j l. h j (omega arith) (omega (arith, nodes_in xs))
of_nodes xs ms (Some k) h = h.3

pub returns : goal.returns
returns c =
    let xs = c.args.self.nodes.rows.now in
    let ms = c.args.self.bytes.now in
    of_nodes xs ms c.find_map.result
    (mapped _ _ (λ a r q k. search rules) (λ j k. Missed (state_in xs) ms k) (λ j. UnmarkedFrom (state_in xs) ms j None) (λ x r k. search rules) (λ x k. search rules) _ _ c.find_map.ensures.runs)
