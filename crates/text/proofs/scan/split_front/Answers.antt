-- The first byte that stops is where the front ends.
use Rattle.std.proofs.Common.{rules, ◌≡◌}
use Rattle.std.specs.List.{position}
use Rattle.std.proofs.lemmas.Iterator.Search.{position_from_yields_List}
use Rattle.std.proofs.lemmas.Iterator.{YieldsList-from_slice}
use borrow.Author.Tests.{tests}
use Rattle.text.proofs.Fronts.{front_found}
use Rattle.text.proofs.scan.split_front.Goals as goal

pub returns-clause-front : goal.returns-clause-front
returns-clause-front g c = λ p computes.
    let xs = c.args.bytes.now in
    let first : c.position.result ≡ position p xs =
    position_from_yields_List p _ _ _ c.position.ensures.ran (YieldsList-from_slice xs c.iter.ensures.rest) (λ x b q h. search (rules, tests)) in
    front_found p xs c.position.result c.unwrap_or-end.result c.split_at.result.0.now first c.unwrap_or-end.ensures c.split_at.ensures.front
