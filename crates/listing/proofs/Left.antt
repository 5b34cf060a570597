-- What is left of a listing, as it is written production by production.
use Rattle.std.proofs.Common.{◌≡◌, ℕ, ◌+◌, ◌-◌, true, false, List, [], ◌∷◌, ◌++◌, length, get_or, sym, ap, ◌∙◌, arith}
use Rattle.std.specs.declared.ops.Range.{Range}
use Rattle.theory.specs.Books.{State}
use Rattle.theory.specs.Productions.{Production, production}
use Rattle.listing.specs.declared.write.Productions.{Productions}
use Rattle.listing.specs.Nodes.{state_in}
use Rattle.listing.specs.Order.{joined, stands, of_node, of_marked, left_over}
use Rattle.listing.proofs.Joined.{joined_found, joined_none}
use Rattle.listing.proofs.Order.{node_taken, node_passed, class_taken, class_passed}
use Rattle.listing.proofs.Ranges.{Found, NotFound}

-- what an iterator has left
abbrev pub left : Productions → List Production
left s = left_over (state_in s.marking.nodes.rows.now) s.marking.bytes.now s.class s.nodes s.classes

-- what the searches for a node and for a class look for
abbrev pub Stands : State → ℕ → ℕ → Type 0
Stands s k j = stands s k j ≡ true

abbrev pub Passes : State → ℕ → ℕ → Type 0
Passes s k j = stands s k j ≡ false

abbrev pub NoMark : List ℕ → ℕ → Type 0
NoMark ms k = get_or ms k 0 ≡ 0

abbrev pub Mark : List ℕ → ℕ → Type 0
Mark ms k = NoMark ms k → ⊥

module _ (s : State) (ms : List ℕ) (k : ℕ) (r c : Range ℕ) where
  abbrev more : List Production
  more = joined (of_marked s ms) c.start (c.end - c.start)

  pub node_found : (u : Range ℕ) (j : ℕ) (p : Production) → Found (Stands s k) (Passes s k) r u j → p ≡ production s j
      → left_over s ms k r c ≡ p ∷ left_over s ms k u c
  node_found u j p F e =
      ap (λ (ps : List Production). ps ++ more)
      (joined_found (of_node s k) r.start r.end j F.from F.within (λ i m n. node_passed s k i (F.missed i m n))
      ∙ ap (λ (ps : List Production). ps ++ joined (of_node s k) (j + 1) (r.end - (j + 1))) (node_taken s k j F.hit))
      ∙ (λ z. sym e z ∷ joined (of_node s k) (sym F.rest z) (sym F.end z - sym F.rest z) ++ more)

  pub no_node_found : (u : Range ℕ) → NotFound (Passes s k) r u → left_over s ms k r c ≡ more
  no_node_found u N =
      ap (λ (ps : List Production). ps ++ more)
      (joined_none (of_node s k) r.start (r.end - r.start) (λ i m n. node_passed s k i (N.missed i m (omega arith))))

module _ (s : State) (ms : List ℕ) (c : Range ℕ) where
  pub class_found : (v : Range ℕ) (k n : ℕ) → Found (Mark ms) (NoMark ms) c v k → n ≡ length s.nodes
      → joined (of_marked s ms) c.start (c.end - c.start) ≡ left_over s ms k (record { start = 0; end = n }) v
  class_found v k n F e =
      let m : length s.nodes ≡ n - 0 = omega arith in
      joined_found (of_marked s ms) c.start c.end k F.from F.within (λ i l h. class_passed s ms i (F.missed i l h))
      ∙ ap (λ (ps : List Production). ps ++ joined (of_marked s ms) (k + 1) (c.end - (k + 1))) (class_taken s ms k F.hit)
      ∙ (λ z. joined (of_node s k) 0 (m z) ++ joined (of_marked s ms) (sym F.rest z) (sym F.end z - sym F.rest z))

  pub no_class_found : (v : Range ℕ) → NotFound (NoMark ms) c v → joined (of_marked s ms) c.start (c.end - c.start) ≡ []
  no_class_found v N =
      joined_none (of_marked s ms) c.start (c.end - c.start) (λ i m n. class_passed s ms i (N.missed i m (omega arith)))

pub nothing_left : (s : State) (ms : List ℕ) (k : ℕ) (u v : Range ℕ) → u.end - u.start ≡ 0 → v.end - v.start ≡ 0 → left_over s ms k u v ≡ []
nothing_left s ms k u v d e = λ z. joined (of_node s k) u.start (d z) ++ joined (of_marked s ms) v.start (e z)
