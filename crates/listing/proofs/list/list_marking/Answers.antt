-- The productions of the marked classes are the listing: there is no room for them, or they are written.
use Rattle.std.proofs.Common.{ℕ, ◌≡◌, ◌<◌, ◌≤◌, List, map, length, take, replicate, refl, ap, subst, arith}
use lib.ListN.{length-map}
use Rattle.book.specs.declared.row.Row.{Row}
use Rattle.book.specs.declared.nodes.Nodes.{Nodes}
use Rattle.book.specs.Held.{state}
use Rattle.theory.specs.Calls.{Listing, Listing.too_long, Listing.written, Answer}
use Rattle.theory.specs.Productions.{Listed}
use Rattle.listing.specs.declared.production.Production.{Production}
use Rattle.listing.specs.Told.{plain, count_answer}
use Rattle.listing.specs.Nodes.{state_in}
use Rattle.listing.specs.Marking.{Marked}
use Rattle.listing.specs.Order.{listing}
use Rattle.listing.specs.Steps.{Writing, Writing.too_long as no_room, Writing.all}
use Rattle.listing.proofs.Nodes.{nodes_in, class_in}
use Rattle.listing.proofs.Order.{listing_listed}
use Rattle.listing.proofs.Moved.{listing_to}
use Rattle.listing.proofs.list.list_marking.Goals as goal

listed : (v : Nodes) (n : ℕ) (ms : List ℕ) → Marked (state_in v.rows.now) n ms → Listed (state_in v.rows.now) n (listing (state_in v.rows.now) ms)
listed v n ms M =
    let xs = v.rows.now in
    let z = nodes_in xs in
    listing_listed (state_in xs) ms n (λ j h. let h' : j < length xs = omega arith in omega (arith, class_in xs j, (v.based j h').0)) M

-- in the state of the nodes alone
of_nodes : (v : Nodes) (n size : ℕ) (ms zs : List ℕ) (before after : List Production) (answer : Answer ℕ) → n < length v.rows.now
    → length v.rows.now ≤ size → Marked (state_in v.rows.now) n ms → Writing (listing (state_in v.rows.now) ms) before answer after
    → zs ≡ replicate size 0 → Listing (state_in v.rows.now) n size (map plain before) answer (map plain after) zs (state_in v.rows.now)
of_nodes v n size ms zs before after answer h k M W e =
    let z = nodes_in v.rows.now in
    let l = length-map before plain in
    let L = listed v n ms M in
    elim W [
      | no_room b a f ↦ too_long (omega arith) (omega arith) _ L (omega arith) a (ap (map plain) f) e refl
      | all b a f ↦ written (omega arith) (omega arith) _ L (omega arith) a f e refl
    ]

pub returns : goal.returns
returns c ms e =
    let t = c.args.book.now.table in
    let s = state t in
    let h = c.in_ok-check.ensures in
    let n = c.args.node.0 in
    let size = length c.args.marks.now in
    let before = map plain c.args.out.now in
    let after = map plain c.write.new.out in
    let answer = count_answer c.write.result in
    listing_to (state_in (take t.nodes t.rows.now)) s.names s.equated s.choices s.priced s.room n size before answer after ms
    (subst (λ (xs : List Row). Listing (state_in xs) n size before answer after ms (state_in xs)) c.nodes-nodes.ensures
    (of_nodes c.nodes-nodes.result n size c.mark.new.bytes ms c.args.out.now c.write.new.out answer h.0 h.1 c.mark.ensures c.write.ensures e))
