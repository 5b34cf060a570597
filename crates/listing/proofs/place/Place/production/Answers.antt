-- The production is read off the row.
use Rattle.listing.proofs.Nodes.{production_in}
use Rattle.listing.proofs.place.Place.production.Goals as goal

pub returns : goal.returns
returns c =
    let v = c.args.self in
    let n = v.marking.nodes in
    let e = production_in n.rows.now n.tidy n.based v.at v.here in
    cc
