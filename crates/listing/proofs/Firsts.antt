-- The lowest node that has a production.
use Rattle.std.proofs.Common.{◌≡◌, ℕ, zero, suc, ◌<◌, ◌≤◌, Bool, true, false, cond, eqb, ◌⊎◌, sym, refl, ap, ◌∙◌, subst, inl, inr, not-suc-le-zero, arith}
use Rattle.std.proofs.lemmas.Bool.{eq-eqb, eqb-true, cases_eq, cases_lt, both_ways, cond-true, cond-false}
use Rattle.theory.specs.Books.{Node, leaf, over, pair, State, IsNode, node_at, class}
use Rattle.theory.specs.Productions.{Production, made_by, production, FirstWith}
use Rattle.listing.specs.Order.{same_production, unmet, stands}

made_of : (s : State) (k : ℕ) (x : Node) → (made_by s k x).of ≡ k
made_of s k (leaf a) = refl
made_of s k (over a p) = refl
made_of s k (pair a p q) = refl

-- a node's production is of its class
pub production_class : (s : State) (j : ℕ) → (production s j).of ≡ class s j
production_class s j = made_of s (class s j) (node_at s j)

and_parts : (b x : Bool) → cond b x false ≡ true → (b ≡ true) × (x ≡ true)
and_parts true x e = (refl, e)
and_parts false x e = absurd (both_ways false refl e)

same_true : (p q : Production) → same_production p q ≡ true → p ≡ q
same_true p q e =
    let a = and_parts (eqb p.of q.of) _ e in
    let b = and_parts (eqb p.symbol q.symbol) _ a.1 in
    let c = and_parts (eqb p.parts q.parts) _ b.1 in
    let d = and_parts (eqb p.left q.left) _ c.1 in
    λ i. record {
      of = eqb-true _ _ a.0 i;
      symbol = eqb-true _ _ b.0 i;
      parts = eqb-true _ _ c.0 i;
      left = eqb-true _ _ d.0 i;
      right = eqb-true _ _ d.1 i;
    }

same_self : (p : Production) → same_production p p ≡ true
same_self p =
    cond-true _ _ _ (eq-eqb p.of _ refl)
    ∙ cond-true _ _ _ (eq-eqb p.symbol _ refl)
    ∙ cond-true _ _ _ (eq-eqb p.parts _ refl)
    ∙ cond-true _ _ _ (eq-eqb p.left _ refl)
    ∙ eq-eqb p.right _ refl

module _ (s : State) (p : Production) where
  -- a lower node has it
  pub met : (n i : ℕ) → i < n → production s i ≡ p → unmet s p n ≡ false
  met zero i h e = absurd (not-suc-le-zero h)
  met (suc n) i h e = go (cases_eq i n) (met n i)
    where
      here : i ≡ n → same_production p (production s n) ≡ true
      here d = subst (λ (q : Production). same_production p q ≡ true) (sym e ∙ ap (production s) d) (same_self p)

      past : (v : Bool) → unmet s p n ≡ false → cond v false (unmet s p n) ≡ false
      past true f = refl
      past false f = f

      go : (i ≡ n) ⊎ (i ≡ n → ⊥) → (i < n → production s i ≡ p → unmet s p n ≡ false) → unmet s p (suc n) ≡ false
      go (inl d) ih = cond-true (same_production p (production s n)) _ _ (here d)
      go (inr d) ih = past (same_production p (production s n)) (ih (omega arith) e)

  -- the lowest that has it, if one below n has
  lowest : (n : ℕ) → unmet s p n ≡ false → (i : ℕ) × (i < n) × (production s i ≡ p) × (unmet s p i ≡ true)
  lowest zero e = absurd (both_ways true e refl)
  lowest (suc n) e = go (unmet s p n) refl (lowest n)
    where
      here : (v : Bool) → unmet s p n ≡ true → cond v false (unmet s p n) ≡ false → v ≡ true
      here true f g = refl
      here false f g = absurd (both_ways (unmet s p n) g f)

      go : (v : Bool) → unmet s p n ≡ v → (unmet s p n ≡ false → (i : ℕ) × (i < n) × (production s i ≡ p) × (unmet s p i ≡ true))
          → (i : ℕ) × (i < suc n) × (production s i ≡ p) × (unmet s p i ≡ true)
      go true f ih = (n, omega arith, sym (same_true _ _ (here (same_production p (production s n)) f e)), f)
      go false f ih = let t = ih f in let h : t.0 < n = t.1 in (t.0, omega arith, t.2, t.3)

  -- no lower node has it
  pub unmet_all : (n : ℕ) → ((i : ℕ) → i < n → production s i ≡ p → ⊥) → unmet s p n ≡ true
  unmet_all zero h = refl
  unmet_all (suc n) h =
      cond-false (same_production p (production s n)) _ _ (differ (same_production p (production s n)) refl) ∙ unmet_all n (λ i l. h i (omega arith))
    where
      differ : (v : Bool) → same_production p (production s n) ≡ v → v ≡ false
      differ true e = absurd (h n (omega arith) (sym (same_true p _ e)))
      differ false e = refl

pub stands_first : (s : State) (k j : ℕ) → IsNode s j → stands s k j ≡ true → (class s j ≡ k) × FirstWith s (production s j) j
stands_first s k j h e =
    let t = and_parts (eqb (class s j) k) _ e in
    (eqb-true _ _ t.0, record { here = h; has = refl; low = λ i l q. go i q t.1 (cases_lt i j) })
  where
    go : (i : ℕ) → production s i ≡ production s j → unmet s (production s j) j ≡ true → (i < j) ⊎ (j ≤ i) → j ≤ i
    go i q f (inl l) = absurd (both_ways _ (met s (production s j) j i l q) f)
    go i q f (inr l) = l

-- the node that stands for the production of node j
pub stander : (s : State) (j : ℕ) → (i : ℕ) × (i ≤ j) × (production s i ≡ production s j) × (stands s (class s j) i ≡ true)
stander s j =
    let p = production s j in
    let t = lowest s p (suc j) (met s p (suc j) j (omega arith) refl) in
    let h : t.0 < suc j = t.1 in
    (t.0, omega arith, t.2, go t.0 t.2 t.3)
  where
    go : (i : ℕ) → production s i ≡ production s j → unmet s (production s j) i ≡ true → stands s (class s j) i ≡ true
    go i e f =
        cond-true (eqb (class s i) (class s j)) _ _
        (eq-eqb _ _ (sym (production_class s i) ∙ ap (λ (q : Production). q.of) e ∙ production_class s j))
        ∙ ap (λ (q : Production). unmet s q i) e
        ∙ f
