-- In a closed table the grammar of the classes generates just what is equal.
use Rattle.std.proofs.Common.{◌≡◌, ℕ, zero, suc, ◌<◌, length, sym, refl, ap, ◌∙◌, subst, ap₂, subst₂, not-suc-le-zero, arith}
use mathlib.Core.List.Memᴰ
use Rattle.theory.specs.Builds.{Build, alone, one, two}
use Rattle.theory.specs.Equality.{Equal, given, same, turned, joined, in_one, in_two}
use Rattle.theory.specs.Tables.{Shape, atom, unary, binary, Table, NodePairs, Closed, Generated, Matches, shape_at, EachPart, map_parts, build_over, build_at, equations}
use Rattle.theory.specs.Statements.{Completeness, Exact, Exactness}
use Rattle.theory.proofs.Tables.{each_map, build_step}

module _ (t : Table) (class : ℕ → ℕ) (es : NodePairs) (closed : Closed t class es) where
  -- the build of a node whose shape is x
  build_is : (j : ℕ) (x : Shape) → j < length t → shape_at t j ≡ x → build_at t j ≡ build_over (build_at t) x
  build_is j x h e = build_step t j h (closed.lower j h) ∙ ap (build_over (build_at t)) e

  -- a node's build is generated at its class
  own_from : (f i : ℕ) → i < f → i < length t → Generated t class (build_at t i) (class i)
  own_from zero i l h = absurd (not-suc-le-zero l)
  own_from (suc f) i l h =
      subst (λ (b : Build). Generated t class b (class i)) (sym (build_is i (shape_at t i) h refl))
      (go (shape_at t i) refl (closed.lower i h) (λ p m. own_from f p (omega arith) (omega arith)))
    where
      go : (x : Shape) → shape_at t i ≡ x → EachPart (λ p. p < i) x → ((p : ℕ) → p < i → Generated t class (build_at t p) (class p))
          → Generated t class (build_over (build_at t) x) (class i)
      go (atom s) e b ih = (i, h, refl, e)
      go (unary s p) e b ih = (i, p, h, refl, e, ih p b)
      go (binary s p q) e b ih = (i, p, q, h, refl, e, ih p b.0, ih q b.1)

  pub own : (i : ℕ) → i < length t → Generated t class (build_at t i) (class i)
  own i h = own_from (suc i) i (omega arith) h

  -- a build is generated at one class at most
  pub one_class : (u : Build) (k l : ℕ) → Generated t class u k → Generated t class u l → k ≡ l
  one_class (alone s) k l a b =
      sym a.2 ∙ closed.congruent a.0 b.0 a.1 b.1 (ap (map_parts class) (a.3 ∙ sym b.3)) ∙ b.2
  one_class (one s u) k l a b =
      let e = one_class u (class a.1) (class b.1) a.5 b.5 in
      sym a.3
      ∙ closed.congruent a.0 b.0 a.2 b.2
      (ap (map_parts class) a.4 ∙ ap (unary s) e ∙ sym (ap (map_parts class) b.4))
      ∙ b.3
  one_class (two s u v) k l a b =
      let e = one_class u (class a.1) (class b.1) a.6 b.6 in
      let f = one_class v (class a.2) (class b.2) a.7 b.7 in
      sym a.4
      ∙ closed.congruent a.0 b.0 a.3 b.3
      (ap (map_parts class) a.5 ∙ ap₂ (binary s) e f ∙ sym (ap (map_parts class) b.5))
      ∙ b.4

  -- nodes of one class: where the build of one is generated, that of the other is
  moved : (u v : Build) (i j : ℕ) → i < length t → j < length t → class i ≡ class j
      → build_at t i ≡ u → build_at t j ≡ v → (k : ℕ) → Generated t class u k → Generated t class v k
  moved u v i j h l e p q k a =
      let a' = subst (λ (b : Build). Generated t class b k) (sym p) a in
      let n = one_class (build_at t i) (class j) k (subst (λ (m : ℕ). Generated t class (build_at t i) m) e (own i h)) a' in
      subst₂ (λ (b : Build) (m : ℕ). Generated t class b m) q n (own j l)

  -- equal builds are generated at the same classes
  pub carried : {u v : Build} → Equal (equations t es) u v → (k : ℕ)
      → (Generated t class u k → Generated t class v k) × (Generated t class v k → Generated t class u k)
  carried {u} {v} (given m) k =
      let f = Memᴰ.of_map (λ (e : ℕ × ℕ). (build_at t e.0, build_at t e.1)) es m in
      let i = f.0.0 in
      let j = f.0.1 in
      let g = closed.joined i j f.1 in
      let p : build_at t i ≡ u = ap (λ (e : Build × Build). e.0) f.2 in
      let q : build_at t j ≡ v = ap (λ (e : Build × Build). e.1) f.2 in
      (moved u v i j g.0 g.1 g.2 p q k, moved v u j i g.1 g.0 (sym g.2) q p k)
  carried same k = (λ a. a, λ a. a)
  carried (turned q) k = ((carried q k).1, (carried q k).0)
  carried (joined q r) k = (λ a. (carried r k).0 ((carried q k).0 a), λ a. (carried q k).1 ((carried r k).1 a))
  carried (in_one q) k = (
    λ a. (a.0, a.1, a.2, a.3, a.4, (carried q (class a.1)).0 a.5),
    λ a. (a.0, a.1, a.2, a.3, a.4, (carried q (class a.1)).1 a.5),
  )
  carried (in_two q r) k = (
    λ a. (a.0, a.1, a.2, a.3, a.4, a.5, (carried q (class a.1)).0 a.6, (carried r (class a.2)).0 a.7),
    λ a. (a.0, a.1, a.2, a.3, a.4, a.5, (carried q (class a.1)).1 a.6, (carried r (class a.2)).1 a.7),
  )

  complete : (i j : ℕ) → i < length t → j < length t → Equal (equations t es) (build_at t i) (build_at t j) → class i ≡ class j
  complete i j h l q = one_class (build_at t j) (class i) (class j) ((carried q (class i)).0 (own i h)) (own j l)

  pub parts_in : (j : ℕ) (x : Shape) → j < length t → shape_at t j ≡ x → EachPart (λ p. p < length t) x
  parts_in j x h e = each_map (λ p. p < j) (λ p. p < length t) (λ p m. omega arith) x (subst (EachPart (λ p. p < j)) e (closed.lower j h))

  -- the production of some node of class k matches u
  abbrev Step : Build → ℕ → Type 0
  Step u k = (j : ℕ) × (j < length t) × (class j ≡ k) × Matches (equations t es) t u j

  at_node : (j : ℕ) (x : Shape) (u : Build) → j < length t → shape_at t j ≡ x
      → Equal (equations t es) u (build_over (build_at t) x) → Equal (equations t es) u (build_at t j)
  at_node j x u h e q = subst (λ (b : Build). Equal (equations t es) u b) (sym (build_is j x h e)) q

  node_of : (u : Build) (j : ℕ) → j < length t → Matches (equations t es) t u j → Equal (equations t es) u (build_at t j)
  node_of (alone s) j h f = at_node j (atom s) (alone s) h f same
  node_of (one s u) j h f = at_node j (unary s f.0) (one s u) h f.1 (in_one f.2)
  node_of (two s u v) j h f = at_node j (binary s f.0 f.1) (two s u v) h f.2 (in_two f.3 f.4)

  pub step_eq : (u : Build) (i : ℕ) → i < length t → Step u (class i) → Equal (equations t es) u (build_at t i)
  step_eq u i h f = joined (node_of u f.0 f.1 f.3) (closed.sound f.0 i f.1 h f.2)

  pub step_of : (u : Build) (k : ℕ) → Generated t class u k → Step u k
  step_of (alone s) k a = a
  step_of (one s u) k a =
      let p = a.1 in
      let h = parts_in a.0 (unary s p) a.2 a.4 in
      (a.0, a.2, a.3, (p, a.4, step_eq u p h (step_of u (class p) a.5)))
  step_of (two s u v) k a =
      let p = a.1 in
      let q = a.2 in
      let h = parts_in a.0 (binary s p q) a.3 a.5 in
      (a.0, a.3, a.4, (p, q, a.5, step_eq u p h.0 (step_of u (class p) a.6), step_eq v q h.1 (step_of v (class q) a.7)))

  pub generated_equal : (u : Build) (i : ℕ) → i < length t → Generated t class u (class i) → Equal (equations t es) u (build_at t i)
  generated_equal u i h a = step_eq u i h (step_of u (class i) a)

  pub equal_generated : (u : Build) (i : ℕ) → i < length t → Equal (equations t es) u (build_at t i) → Generated t class u (class i)
  equal_generated u i h q = (carried q (class i)).1 (own i h)

  exact : (u : Build) (i : ℕ) → i < length t → Exact t class es u i
  exact u i h =
      record {
        whole = (equal_generated u i h, generated_equal u i h);
        step = (λ q. step_of u (class i) (equal_generated u i h q), step_eq u i h);
      }

pub completeness : Completeness
completeness t class es closed i j h l = (complete t class es closed i j h l, closed.sound i j h l)

pub exactness : Exactness
exactness t class es closed u i h = exact t class es closed u i h
