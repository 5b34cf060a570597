-- The next production is that of the next node of the class, or else of the first of the next class that is marked.
use Rattle.std.proofs.Common.{rules, tests, ◌≡◌, length, ℕ, List, ◌∷◌, Some, None, sym, ap, ◌∙◌, arith}
use Rattle.std.specs.declared.ops.Range.{Range}
use Rattle.theory.specs.Productions.{Production, production}
use Rattle.listing.specs.declared.marking.Marking.{Marking}
use Rattle.listing.specs.Nodes.{state_in}
use Rattle.listing.specs.Told.{plain}
use Rattle.listing.specs.Order.{left_over}
use Rattle.listing.proofs.Nodes.{nodes_in}
use Rattle.listing.proofs.Ranges.{found}
use Rattle.listing.proofs.Left.{left, Stands, Passes, Mark, NoMark, node_found, no_node_found, class_found, no_class_found, nothing_left}
use Rattle.listing.proofs.write.ProductionsIterator.next.Goals as goal

-- what is left, by the marking
abbrev in_marking : Marking → ℕ → Range ℕ → Range ℕ → List Production
in_marking m k r c = left_over (state_in m.nodes.rows.now) m.bytes.now k r c

-- the loop keeps the marking
at_first : (m i : Marking) (ps : List Production) (k : ℕ) (r c : Range ℕ) → m ≡ i → in_marking m k r c ≡ ps → ps ≡ in_marking i k r c
at_first m i ps k r c e f = sym f ∙ ap (λ (n : Marking). in_marking n k r c) e

pub invariant_of-self : goal.invariant_of-self
invariant_of-self c =
    let s = state_in c.args.self.now.marking.nodes.rows.now in
    let k = c.loop-at.self.class in
    let F = found _ _ (Stands s k) (Passes s k) (λ x q k. search (rules, tests)) (λ x q k. search (rules, tests)) _ _ (Some c.in-Some.at) c.in-Some.ensures.ran in
    record { within = omega (arith, F.end, c.loop-at.self.within); marked = c.loop-at.self.marked }

pub returns-in-Some-clause-steps : goal.returns-in-Some-clause-steps
returns-in-Some-clause-steps c =
    let i = c.args.self.now in
    let s = state_in i.marking.nodes.rows.now in
    let t = c.loop-at.self in
    let I = c.loop-at.invariant in
    let P = c.place.ensures in
    let F = found _ _ (Stands s t.class) (Passes s t.class) (λ x q k. search (rules, tests)) (λ x q k. search (rules, tests)) _ _ (Some c.in-Some.at) c.in-Some.ensures.ran in
    at_first t.marking i.marking (left i) t.class t.nodes t.classes I.marking I.same
    ∙ node_found s i.marking.bytes.now t.class t.nodes t.classes c.find-found.new.self c.in-Some.at (plain c.production.result) F
    (c.production.ensures ∙ (λ z. production (state_in (P.marking z).nodes.rows.now) (P.at z)))
    ∙ (λ z. plain c.production.result ∷ in_marking (sym I.marking z) t.class c.find-found.new.self t.classes)

pub returns-in-Some-clause-goes : goal.returns-in-Some-clause-goes
returns-in-Some-clause-goes c =
    let e = returns-in-Some-clause-steps c in
    record { on = λ f. (tt, tt, omega (arith, ap length e)); keeps = tt; rests = λ f. tt }

pub invariant_of-self-in-Break-1 : goal.invariant_of-self-in-Break-1
invariant_of-self-in-Break-1 c =
    let i = c.args.self.now in
    let s = state_in i.marking.nodes.rows.now in
    let ms = i.marking.bytes.now in
    let k = c.loop-at.self.class in
    let N = found _ _ (Stands s k) (Passes s k) (λ x q k. search (rules, tests)) (λ x q k. search (rules, tests)) _ _ None c.in_default.ensures.ran in
    let M = found _ _ (Mark ms) (NoMark ms) (λ x q k. search (rules, tests)) (λ x q k. search (rules, tests)) _ _ None c.in_err-next.ensures.ran in
    record { within = omega (arith, N.end, c.loop-at.self.within); marked = omega (arith, M.end, c.loop-at.self.marked) }

pub returns-in_err-next-clause-steps : goal.returns-in_err-next-clause-steps
returns-in_err-next-clause-steps c =
    let i = c.args.self.now in
    let s = state_in i.marking.nodes.rows.now in
    let ms = i.marking.bytes.now in
    let t = c.loop-at.self in
    let I = c.loop-at.invariant in
    let u = c.find-found.new.self in
    let v = c.find.new.self in
    let N = found _ _ (Stands s t.class) (Passes s t.class) (λ x q k. search (rules, tests)) (λ x q k. search (rules, tests)) _ _ None c.in_default.ensures.ran in
    let M = found _ _ (Mark ms) (NoMark ms) (λ x q k. search (rules, tests)) (λ x q k. search (rules, tests)) _ _ None c.in_err-next.ensures.ran in
    rw c.from_residual.ensures (
      at_first t.marking i.marking (left i) t.class t.nodes t.classes I.marking I.same
          ∙ no_node_found s ms t.class t.nodes t.classes u N
          ∙ no_class_found s ms t.classes v M,
      nothing_left (state_in t.marking.nodes.rows.now) t.marking.bytes.now t.class u v N.rest M.rest,
    )

pub invariant_of-self-in-loop-at : goal.invariant_of-self-in-loop-at
invariant_of-self-in-loop-at c =
    let ms = c.args.self.now.marking.bytes.now in
    let M = found _ _ (Mark ms) (NoMark ms) (λ x q k. search (rules, tests)) (λ x q k. search (rules, tests)) _ _ (Some c.in_ok-next.next) c.in_ok-next.ensures.ran in
    let e = ap (λ (m : Marking). length m.nodes.rows.now) c.loop-at.invariant.marking in
    record { within = omega (arith, e); marked = omega (arith, M.end, c.loop-at.self.marked) }

pub loop-at-preserved : goal.loop-at-preserved
loop-at-preserved c =
    let i = c.args.self.now in
    let s = state_in i.marking.nodes.rows.now in
    let ms = i.marking.bytes.now in
    let t = c.loop-at.self in
    let I = c.loop-at.invariant in
    let u = c.find-found.new.self in
    let v = c.find.new.self in
    let n = length i.marking.nodes.rows.now in
    let k = c.in_ok-next.next in
    let N = found _ _ (Stands s t.class) (Passes s t.class) (λ x q k. search (rules, tests)) (λ x q k. search (rules, tests)) _ _ None c.in_default.ensures.ran in
    let M = found _ _ (Mark ms) (NoMark ms) (λ x q k. search (rules, tests)) (λ x q k. search (rules, tests)) _ _ (Some k) c.in_ok-next.ensures.ran in
    record {
      marking = I.marking;
      same = (λ z. in_marking (I.marking z) k (record { start = 0; end = n }) v)
          ∙ sym (at_first t.marking i.marking (left i) t.class t.nodes t.classes I.marking I.same
          ∙ no_node_found s ms t.class t.nodes t.classes u N
          ∙ class_found s ms t.classes v k n M (sym (nodes_in i.marking.nodes.rows.now)));
    }
