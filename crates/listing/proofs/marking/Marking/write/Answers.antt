-- The listing is counted, and then written production by production.
use Rattle.std.proofs.Common.{ℕ, suc, ◌≡◌, ◌<◌, ◌^◌, ◌++◌, map, length, take, drop, set, inl, sym, ap, ◌∙◌, arith}
use lib.ListN.{length-map}
use Rattle.std.specs.Iterator.Adapters.{enumerate_count}
use Rattle.std.proofs.lemmas.List.{map-set}
use Rattle.std.proofs.lemmas.Iterator.Consumers.{count_from_yields_List, YieldsList-from_first}
use Rattle.listing.specs.declared.marking.Marking.{Marking}
use Rattle.theory.specs.Calls.{granted}
use Rattle.listing.specs.Told.{plain}
use Rattle.listing.specs.Nodes.{state_in}
use Rattle.listing.specs.Order.{listing}
use Rattle.listing.specs.Steps.{Writing.all}
use Rattle.listing.proofs.Nodes.{nodes_in}
use Rattle.listing.proofs.Order.{classes_few}
use Rattle.listing.proofs.Left.{left}
use Rattle.listing.proofs.Written.{stored, place_of_next, nothing_more}
use Rattle.listing.proofs.marking.Marking.write.Goals as goal

-- a listing is countable
few : (m : Marking) → length (listing (state_in m.nodes.rows.now) m.bytes.now) < 2 ^ 64
few m =
    let s = state_in m.nodes.rows.now in
    let z = nodes_in m.nodes.rows.now in
    omega (arith, m.nodes.few, classes_few s m.bytes.now 1024 0 (length s.nodes) (omega (arith, m.nodes.few)))

pub count-n-requires-clause-fits : goal.count-n-requires-clause-fits
count-n-requires-clause-fits c = inl (omega (arith, few c.args.self, ap length c.productions.ensures))

pub loop-to-preserved : goal.loop-to-preserved
loop-to-preserved c =
    let I = c.loop-to.invariant in
    let n = enumerate_count c.loop-to.to-iterator in
    let ps = listing (state_in c.args.self.nodes.rows.now) c.args.self.bytes.now in
    let qs = map plain c.args.out.now in
    let S = c.in-Some.ensures.steps in
    let p = c.in-Some.production in
    let t = place_of_next n ps _ (plain p) (I.rest ∙ S.0) in
    let N = count_from_yields_List c.productions.result c.count-n.result c.count-n.ensures.ran (YieldsList-from_first plain left _ c.productions.ensures) in
    let k : enumerate_count c.next.new.self ≡ suc n = omega (arith, S.2) in
    record {
      place = omega (arith, t.0);
      rest = ap (λ (i : ℕ). drop i ps) k ∙ t.1;
      written = map-set plain c.loop-to.out c.in-Some.to p
          ∙ (λ z. set (I.written z) (S.1 z) (plain p))
          ∙ stored n ps qs _ (plain p) (I.rest ∙ S.0) (omega (arith, t.0, N, c.if-n-out.false, length-map c.args.out.now plain))
          ∙ ap (λ (i : ℕ). take i ps ++ drop i qs) (sym k);
    }

pub returns : goal.returns
returns c =
    let I = c.loop-to.invariant in
    let n = enumerate_count c.loop-to.to-iterator in
    let ps = listing (state_in c.args.self.nodes.rows.now) c.args.self.bytes.now in
    let N = count_from_yields_List c.productions.result c.count-n.result c.count-n.ensures.ran (YieldsList-from_first plain left _ c.productions.ensures) in
    let t = nothing_more n ps (I.rest ∙ c.in-None.ensures.steps.0.0) I.place in
    all (omega (arith, N, c.if-n-out.false)) (ap granted N) (I.written ∙ (λ z. t.1 z ++ drop (t.0 z) (map plain c.args.out.now)))
