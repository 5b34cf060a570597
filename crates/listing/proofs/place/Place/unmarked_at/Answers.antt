-- The part's class is that of a part: it is answered if its byte is 0, and is marked if not.
use Rattle.std.proofs.Common.{rules, ◌≡◌, ◌==◌, ℕ, ◌<◌, Bool, true, false, List, length, sym, refl, ap, ◌∙◌, subst, arith}
use Rattle.std.proofs.lemmas.Bool.Decides.{nat_tests}
use Rattle.std.specs.Prelude.{slice_index, Option}
use Rattle.std.specs.Bool.{then_some}
use Rattle.book.specs.declared.row.Row.{Row}
use Rattle.book.specs.Rows.{row, class}
use Rattle.listing.specs.declared.marking.Marking.{Marking}
use Rattle.listing.specs.Nodes.{state_in, part_at}
use Rattle.listing.specs.Marking.{UnmarkedAt, Misses, IsMarked}
use Rattle.listing.proofs.Nodes.{nodes_in, class_in, part_in}
use Rattle.listing.proofs.place.Place.unmarked_at.Goals as goal

told : (xs : List Row) (ms : List ℕ) (j i k : ℕ) (r : Option ℕ)
    → r ≡ then_some (slice_index ms k == 0) k
    → (slice_index ms k ≡ 0 → Misses (state_in xs) ms j k)
    → k ≡ class xs (part_at (row xs j).node i)
    → UnmarkedAt xs ms j i r
told xs ms j i k r e f d = subst (UnmarkedAt xs ms j i) (sym e) (go (slice_index ms k == 0) refl)
  where
    go : (b : Bool) → (slice_index ms k == 0) ≡ b → UnmarkedAt xs ms j i (then_some b k)
    go true z = f (search rules)
    go false z = λ l. subst (IsMarked ms) d (grind (arith, nat_tests, z))

pub returns : goal.returns
returns c =
    let v = c.args.self in
    let xs = v.marking.nodes.rows.now in
    let p = part_at (row xs v.at).node c.args.i in
    let P = c.in_ok-part.ensures.part in
    let k : c.from-k.result ≡ class xs p = c.from-k.ensures ∙ c.class.ensures.class ∙ (λ z. class (P.0 z).nodes.rows.now (P.2 z)) in
    let h : c.in_ok-part.field-0.at < length xs = omega (arith, c.in_ok-part.field-0.here, ap (λ (m : Marking). length m.nodes.rows.now) P.0) in
    told xs v.marking.bytes.now v.at c.args.i c.from-k.result c.then_some.result c.then_some.ensures
    (λ z. record {
      part = p;
      is_part = part_in xs v.at c.args.i P.1 (v.marking.nodes.tidy v.at v.here).0;
      of_part = k ∙ sym (class_in xs p);
      here = omega (arith, nodes_in xs, c.class.ensures.low);
      unmarked = z;
    }) k
