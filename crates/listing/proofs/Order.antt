-- The productions of the marked classes, one after another, are the listing.
use Rattle.std.proofs.Common.{◌≡◌, ℕ, ◌+◌, ◌*◌, ◌<◌, ◌≤◌, Bool, true, false, cond, eqb, List, [], ◌∷◌, length, get_or, sym, refl, ap, ◌∙◌, subst, not-suc-le-zero, arith}
use mathlib.Core.List.Memᴰ
use mathlib.Core.List.{Memᴰ}
use Rattle.std.proofs.lemmas.Bool.{eqb-false, eq-eqb, ne_eqb, cond-true, cond-false}
use Rattle.theory.specs.Books.{State, IsNode, class}
use Rattle.theory.specs.Productions.{Production, production, no_production, Reached, FirstWith, Before, by_class, by_node, Listed}
use Rattle.listing.specs.Marking.{IsMarked, Marked}
use Rattle.listing.specs.Order.{joined, stands, of_node, of_class, of_marked, listing}
use Rattle.listing.proofs.Joined.{Ordered, joined_few, joined_every, joined_only, joined_ordered}
use Rattle.listing.proofs.Firsts.{production_class, stands_first, stander}

-- where a production of class k comes from
record From (s : State) (k : ℕ) (p : Production) : Type 0 where
  pub node : ℕ
  pub of_class : class s node ≡ k
  pub first : FirstWith s p node

-- what a node or a class adds
pub node_taken : (s : State) (k j : ℕ) → stands s k j ≡ true → of_node s k j ≡ production s j ∷ []
node_taken s k j e = cond-true (stands s k j) _ _ e

pub node_passed : (s : State) (k j : ℕ) → stands s k j ≡ false → of_node s k j ≡ []
node_passed s k j e = cond-false (stands s k j) _ _ e

pub class_taken : (s : State) (ms : List ℕ) (k : ℕ) → (get_or ms k 0 ≡ 0 → ⊥) → of_marked s ms k ≡ of_class s k
class_taken s ms k e = cond-false (eqb (get_or ms k 0) 0) _ _ (ne_eqb _ 0 e)

pub class_passed : (s : State) (ms : List ℕ) (k : ℕ) → get_or ms k 0 ≡ 0 → of_marked s ms k ≡ []
class_passed s ms k e = cond-true (eqb (get_or ms k 0) 0) _ _ (eq-eqb _ 0 e)

-- a class has no more productions than there are nodes
pub nodes_few : (s : State) (k a n : ℕ) → length (joined (of_node s k) a n) ≤ n
nodes_few s k a n = omega (arith, joined_few (of_node s k) 1 (λ j. go j (stands s k j)) a n)
  where
    go : (j : ℕ) (v : Bool) → length (cond v (production s j ∷ []) []) ≤ 1
    go j true = omega arith
    go j false = omega arith

pub classes_few : (s : State) (ms : List ℕ) (b a n : ℕ) → length s.nodes ≤ b → length (joined (of_marked s ms) a n) ≤ n * b
classes_few s ms b a n h = joined_few (of_marked s ms) b (λ k. go k (eqb (get_or ms k 0) 0)) a n
  where
    go : (k : ℕ) (v : Bool) → length (cond v [] (of_class s k)) ≤ b
    go k true = omega arith
    go k false = omega (arith, nodes_few s k 0 (length s.nodes))

module _ (s : State) where
  from_of : (k : ℕ) (p : Production) → From s k p → p.of ≡ k
  from_of k p F = sym (ap (λ (q : Production). q.of) F.first.has) ∙ production_class s F.node ∙ F.of_class

  node_from : (k j : ℕ) (p : Production) → IsNode s j → Memᴰ p (of_node s k j) → (class s j ≡ k) × FirstWith s p j
  node_from k j p h m = go (stands s k j) refl m
    where
      go : (v : Bool) → stands s k j ≡ v → Memᴰ p (cond v (production s j ∷ []) []) → (class s j ≡ k) × FirstWith s p j
      go true e (Memᴰ.head d) = let t = stands_first s k j h e in (t.0, subst (λ (q : Production). FirstWith s q j) (sym d) t.1)
      go true e (Memᴰ.tail q) = absurd (Memᴰ.not-nil q)
      go false e q = absurd (Memᴰ.not-nil q)

  class_from : (k : ℕ) (p : Production) → Memᴰ p (of_class s k) → From s k p
  class_from k p m =
      let t = joined_only (of_node s k) 0 (length s.nodes) p m in
      let h : t.0 < 0 + length s.nodes = t.2 in
      let n = node_from k t.0 p (omega arith) t.3 in
      record { node = t.0; of_class = n.0; first = n.1 }

  node_ordered : (k j : ℕ) → Ordered (Before s) no_production (of_node s k j)
  node_ordered k j = go (stands s k j)
    where
      go : (v : Bool) → Ordered (Before s) no_production (cond v (production s j ∷ []) [])
      go true a b l h = absurd (omega arith)
      go false a b l h = absurd (not-suc-le-zero h)

  -- of one class, by the lowest node
  class_ordered : (k : ℕ) → Ordered (Before s) no_production (of_class s k)
  class_ordered k =
      joined_ordered (of_node s k) (Before s) no_production (node_ordered k) 0 (length s.nodes)
      (λ i j p q l h a b.
      let F = node_from k i p (omega arith) a in
      let G = node_from k j q (omega arith) b in
      let e = from_of k p (record { node = i; of_class = F.0; first = F.1 }) in
      let f = from_of k q (record { node = j; of_class = G.0; first = G.1 }) in
      by_node (e ∙ sym f) i j F.1 G.1 l)

module _ (s : State) (ms : List ℕ) where
  marked_from : (k : ℕ) (p : Production) → Memᴰ p (of_marked s ms k) → IsMarked ms k × From s k p
  marked_from k p m = go (eqb (get_or ms k 0) 0) refl m
    where
      go : (v : Bool) → eqb (get_or ms k 0) 0 ≡ v → Memᴰ p (cond v [] (of_class s k)) → IsMarked ms k × From s k p
      go true e q = absurd (Memᴰ.not-nil q)
      go false e q = let n : get_or ms k 0 ≡ 0 → ⊥ = eqb-false _ _ e in (omega arith, class_from s k p q)

  marked_ordered : (k : ℕ) → Ordered (Before s) no_production (of_marked s ms k)
  marked_ordered k = go (eqb (get_or ms k 0) 0)
    where
      go : (v : Bool) → Ordered (Before s) no_production (cond v [] (of_class s k))
      go true = λ a b l h. absurd (not-suc-le-zero h)
      go false = class_ordered s k

  -- by class
  listing_ordered : Ordered (Before s) no_production (listing s ms)
  listing_ordered =
      joined_ordered (of_marked s ms) (Before s) no_production marked_ordered 0 (length s.nodes)
      (λ i j p q l h a b.
      let e = from_of s i p (marked_from i p a).1 in
      let f = from_of s j q (marked_from j q b).1 in
      by_class (omega arith))

  stands_listed : (k j : ℕ) → IsNode s j → stands s k j ≡ true → IsNode s k → IsMarked ms k → Memᴰ (production s j) (listing s ms)
  stands_listed k j h e l m =
      joined_every (of_marked s ms) 0 (length s.nodes) k (production s j) (omega arith) (omega arith)
      (subst (Memᴰ (production s j)) (sym (class_taken s ms k (λ z. absurd (omega arith))))
      (joined_every (of_node s k) 0 (length s.nodes) j (production s j) (omega arith) (omega arith)
      (subst (Memᴰ (production s j)) (sym (node_taken s k j e)) (Memᴰ.head refl))))

  pub listing_listed : (n : ℕ) → ((j : ℕ) → IsNode s j → IsNode s (class s j)) → Marked s n ms → Listed s n (listing s ms)
  listing_listed n c M =
      record {
        every = λ j h r.
            let t = stander s j in
            let l : t.0 ≤ j = t.1 in
            subst (λ (p : Production). Memᴰ p (listing s ms)) t.2
            (stands_listed (class s j) t.0 (omega arith) t.3 (c j h) (M.complete (class s j) r));
        only = λ p m.
            let t = joined_only (of_marked s ms) 0 (length s.nodes) p m in
            let F = marked_from t.0 p t.3 in
            let k = F.1.of_class in (
              F.1.node,
              F.1.first.here,
              subst (Reached s n) (sym k) (M.sound t.0 F.0),
              F.1.first.has,
            );
        order = listing_ordered;
      }
