-- The class found is that of a part; if none is found, those of all parts are marked.
use Rattle.std.proofs.Common.{rules, ℕ, ◌<◌, ◌≤◌, Some, None, Option, MatchOption, List, arith}
use Rattle.book.specs.declared.row.Row.{Row}
use Rattle.listing.specs.Nodes.{state_in}
use Rattle.listing.specs.Marking.{Misses, UnmarkedPart, UnmarkedAt}
use Rattle.listing.proofs.Marks.{covered_by}
use Rattle.listing.proofs.Ranges.{mapped}
use Rattle.listing.proofs.place.Place.unmarked_part.Goals as goal

of_parts : (xs : List Row) (ms : List ℕ) (j : ℕ) (r : Option ℕ)
    → MatchOption r ((i : ℕ) → 0 ≤ i → i < 2 → UnmarkedAt xs ms j i None) (λ k. (i : ℕ) × (0 ≤ i) × (i < 2) × Misses (state_in xs) ms j k)
    → UnmarkedPart (state_in xs) ms j r
of_parts xs ms j None h = covered_by xs ms j (h 0 (omega arith) (omega arith)) (h 1 (omega arith) (omega arith))
of_parts xs ms j (Some k) h = h.3

pub returns : goal.returns
returns c =
    let xs = c.args.self.marking.nodes.rows.now in
    let ms = c.args.self.marking.bytes.now in
    let j = c.args.self.at in
    of_parts xs ms j c.find_map.result
    (mapped _ _ (λ a r q k. search rules) (λ i k. Misses (state_in xs) ms j k) (λ i. UnmarkedAt xs ms j i None) (λ x r k. search rules) (λ x k. search rules) _ _ c.find_map.ensures.runs)
