-- A node's class has one listing, and the listed productions spell exactly the builds that are equal to the node's build.
use Rattle.std.proofs.Common.{◌≡◌, ℕ, suc, ◌<◌, ◌⊎◌, List, [], ◌∷◌, length, get_or, sym, refl, ap, ◌∙◌, subst, ap₂, inl, inr, arith}
use mathlib.Core.List.Memᴰ
use mathlib.Core.List.{Memᴰ}
use Rattle.theory.specs.Names.{Name}
use Rattle.theory.specs.Builds.{Build, alone, one, two}
use Rattle.theory.specs.Tables.{atom, unary, binary, Generated}
use Rattle.theory.specs.Books.{Node, leaf, over, pair, shape, State, IsNode, table, node_at, name_at, class}
use Rattle.theory.specs.Productions.{
  Production,
  made_by,
  production,
  no_production,
  Part,
  Reached,
  top,
  below,
  FirstWith,
  Before,
  by_class,
  by_node,
  Listed,
  Derives,
  ListedExact,
}
use Rattle.theory.proofs.Grammar.{exactness}
use Rattle.theory.proofs.Books.{shape_is}
use Rattle.theory.proofs.Spelling.{is_node, in_table, closed_book}

-- ---- one listing

mem_at : (x : Production) (ps : List Production) → Memᴰ x ps → (k : ℕ) × (k < length ps) × (get_or ps k no_production ≡ x)
mem_at x [] m = absurd (Memᴰ.not-nil m)
mem_at x (p ∷ ps) m = go (Memᴰ.cases_cons m) (mem_at x ps)
  where
    go : (x ≡ p) ⊎ Memᴰ x ps → (Memᴰ x ps → (k : ℕ) × (k < length ps) × (get_or ps k no_production ≡ x))
        → (k : ℕ) × (k < suc (length ps)) × (get_or (p ∷ ps) k no_production ≡ x)
    go (inl e) ih = (0, omega arith, sym e)
    go (inr l) ih = let f = ih l in (suc f.0, omega (arith, f.1), f.2)

module _ (s : State) where
  first_once : (p : Production) (j k : ℕ) → FirstWith s p j → FirstWith s p k → j ≡ k
  first_once p j k J K = omega (arith, J.low k K.here K.has, K.low j J.here J.has)

  not_both_ways : (p q : Production) → Before s p q → Before s q p → ⊥
  not_both_ways p q (by_class a) (by_class b) = omega arith
  not_both_ways p q (by_class a) (by_node b j k J K l) = omega arith
  not_both_ways p q (by_node a j k J K l) (by_class b) = omega arith
  not_both_ways p q (by_node a j k J K l) (by_node b j' k' J' K' l') = omega (arith, first_once p j k' J K', first_once q k j' K J')

  abbrev Ordered : List Production → Type 0
  Ordered ps = (a b : ℕ) → a < b → b < length ps → Before s (get_or ps a no_production) (get_or ps b no_production)

  later : (p : Production) (ps : List Production) → Ordered (p ∷ ps) → (x : Production) → Memᴰ x ps → Before s p x
  later p ps c x m =
      let f = mem_at x ps m in
      subst (Before s p) f.2 (c 0 (suc f.0) (omega arith) (omega (arith, f.1)))

  rest : (p : Production) (ps : List Production) → Ordered (p ∷ ps) → Ordered ps
  rest p ps c a b h l = c (suc a) (suc b) (omega arith) (omega arith)

  -- two ordered lists of the same productions are one list
  one_list : (ps qs : List Production) → Ordered ps → Ordered qs → ((x : Production) → Memᴰ x ps → Memᴰ x qs)
      → ((x : Production) → Memᴰ x qs → Memᴰ x ps) → ps ≡ qs
  one_list [] [] c d f g = refl
  one_list [] (q ∷ qs) c d f g = absurd (Memᴰ.not-nil (g q (Memᴰ.head refl)))
  one_list (p ∷ ps) [] c d f g = absurd (Memᴰ.not-nil (f p (Memᴰ.head refl)))
  one_list (p ∷ ps) (q ∷ qs) c d f g =
      let e = heads (Memᴰ.cases_cons (f p (Memᴰ.head refl))) (Memᴰ.cases_cons (g q (Memᴰ.head refl))) in
      ap₂ ◌∷◌ e
      (one_list ps qs (rest p ps c) (rest q qs d)
      (λ x m. down p q e ps qs c x m (Memᴰ.cases_cons (f x (Memᴰ.tail m))))
      (λ x m. down q p (sym e) qs ps d x m (Memᴰ.cases_cons (g x (Memᴰ.tail m)))))
    where
      heads : (p ≡ q) ⊎ Memᴰ p qs → (q ≡ p) ⊎ Memᴰ q ps → p ≡ q
      heads (inl e) b = e
      heads (inr a) (inl e) = sym e
      heads (inr a) (inr b) = absurd (not_both_ways p q (later p ps c q b) (later q qs d p a))

      down : (u v : Production) → u ≡ v → (us vs : List Production) → Ordered (u ∷ us) → (x : Production) → Memᴰ x us
          → (x ≡ v) ⊎ Memᴰ x vs → Memᴰ x vs
      down u v e us vs b x m (inl a) =
          let z = subst (Before s u) (a ∙ sym e) (later u us b x m) in
          absurd (not_both_ways u u z z)
      down u v e us vs b x m (inr a) = a

  pub listed_once : (n : ℕ) (ps qs : List Production) → Listed s n ps → Listed s n qs → ps ≡ qs
  listed_once n ps qs P Q = one_list ps qs P.order Q.order (over_to ps qs P Q) (over_to qs ps Q P)
    where
      over_to : (us vs : List Production) → Listed s n us → Listed s n vs → (x : Production) → Memᴰ x us → Memᴰ x vs
      over_to us vs U V x m =
          let f = U.only x m in
          subst (λ (y : Production). Memᴰ y vs) f.3 (V.every f.0 f.1 f.2)

-- ---- what is listed spells exactly what is equal

-- of the shape and the production of node y, of class k
module _ (s : State) (k : ℕ) where
  of_is : (y : Node) → (made_by s k y).of ≡ k
  of_is (leaf x) = refl
  of_is (over x p) = refl
  of_is (pair x p q) = refl

  name_is : (y : Node) (z : Name) → (shape s.names y ≡ atom z) → (name_at s (made_by s k y).symbol ≡ z) × ((made_by s k y).parts ≡ 0)
  name_is (leaf x) z e = (cc, refl)
  name_is (over x p) z e = absurd (let w : ◌≡◌ {A = ℕ} 0 1 = cc in omega arith)
  name_is (pair x p q) z e = absurd (let w : ◌≡◌ {A = ℕ} 0 1 = cc in omega arith)

  name_over : (y : Node) (z : Name) (p : ℕ) → shape s.names y ≡ unary z p
      → (name_at s (made_by s k y).symbol ≡ z) × ((made_by s k y).parts ≡ 1) × ((made_by s k y).left ≡ class s p) × Part p y
  name_over (leaf x) z p e = absurd (let w : ◌≡◌ {A = ℕ} 0 1 = cc in omega arith)
  name_over (over x q) z p e = let a : q ≡ p = cc in (cc, refl, ap (class s) a, sym a)
  name_over (pair x q r) z p e = absurd (let w : ◌≡◌ {A = ℕ} 0 1 = cc in omega arith)

  name_pair : (y : Node) (z : Name) (p q : ℕ) → shape s.names y ≡ binary z p q
      → (name_at s (made_by s k y).symbol ≡ z) × ((made_by s k y).parts ≡ 2) × ((made_by s k y).left ≡ class s p)
      × ((made_by s k y).right ≡ class s q) × Part p y × Part q y
  name_pair (leaf x) z p q e = absurd (let w : ◌≡◌ {A = ℕ} 0 1 = cc in omega arith)
  name_pair (over x a) z p q e = absurd (let w : ◌≡◌ {A = ℕ} 0 1 = cc in omega arith)
  name_pair (pair x a b) z p q e =
      let f : a ≡ p = cc in
      let g : b ≡ q = cc in
      (cc, refl, ap (class s) f, ap (class s) g, inl (sym f), inr (sym g))

  -- and back, of a production p that is the node's
  atom_of : (y : Node) (p : Production) → made_by s k y ≡ p → (z : Name) → name_at s p.symbol ≡ z → p.parts ≡ 0
      → shape s.names y ≡ atom z
  atom_of (leaf x) p m z e f = let g = ap (λ (r : Production). name_at s r.symbol) m in ap atom (g ∙ e)
  atom_of (over x a) p m z e f = absurd (omega (arith, ap (λ (r : Production). r.parts) m))
  atom_of (pair x a b) p m z e f = absurd (omega (arith, ap (λ (r : Production). r.parts) m))

  unary_of : (y : Node) (p : Production) → made_by s k y ≡ p → (z : Name) → name_at s p.symbol ≡ z → p.parts ≡ 1
      → (a : ℕ) × (shape s.names y ≡ unary z a) × (class s a ≡ p.left)
  unary_of (leaf x) p m z e f = absurd (omega (arith, ap (λ (r : Production). r.parts) m))
  unary_of (over x a) p m z e f =
      let g = ap (λ (r : Production). name_at s r.symbol) m in
      (a, ap (λ (w : Name). unary w a) (g ∙ e), ap (λ (r : Production). r.left) m)
  unary_of (pair x a b) p m z e f = absurd (omega (arith, ap (λ (r : Production). r.parts) m))

  binary_of : (y : Node) (p : Production) → made_by s k y ≡ p → (z : Name) → name_at s p.symbol ≡ z → p.parts ≡ 2
      → (a b : ℕ) × (shape s.names y ≡ binary z a b) × (class s a ≡ p.left) × (class s b ≡ p.right)
  binary_of (leaf x) p m z e f = absurd (omega (arith, ap (λ (r : Production). r.parts) m))
  binary_of (over x a) p m z e f = absurd (omega (arith, ap (λ (r : Production). r.parts) m))
  binary_of (pair x a b) p m z e f =
      let g = ap (λ (r : Production). name_at s r.symbol) m in
      (a, b, ap (λ (w : Name). binary w a b) (g ∙ e), ap (λ (r : Production). r.left) m, ap (λ (r : Production). r.right) m)

module _ (s : State) (n : ℕ) (ps : List Production) (L : Listed s n ps) where
  abbrev Grows : Build → ℕ → Type 0
  Grows u k = Generated (table s) (class s) u k

  -- the node's production is listed, where its class is reached
  at_node : (j k : ℕ) → IsNode s j → class s j ≡ k → Reached s n k → Memᴰ (production s j) ps
  at_node j k h e r = L.every j h (subst (Reached s n) (sym e) r)

  reach : (j k p : ℕ) → IsNode s j → class s j ≡ k → Reached s n k → Part p (node_at s j) → Reached s n (class s p)
  reach j k p h e r q = below j p h (subst (Reached s n) (sym e) r) q

  derived : (u : Build) (k : ℕ) → Reached s n k → Grows u k → Derives s ps u k
  derived (alone x) k r a =
      let j = a.0 in
      let h = is_node s j a.1 in
      let f = name_is s (class s j) (node_at s j) x (sym (shape_is s j h) ∙ a.3) in
      (production s j, at_node j k h a.2 r, of_is s (class s j) (node_at s j) ∙ a.2, f.0, f.1)
  derived (one x u) k r a =
      let j = a.0 in
      let h = is_node s j a.2 in
      let f = name_over s (class s j) (node_at s j) x a.1 (sym (shape_is s j h) ∙ a.4) in (
        production s j,
        at_node j k h a.3 r,
        of_is s (class s j) (node_at s j) ∙ a.3,
        f.0,
        f.1,
        subst (Derives s ps u) (sym f.2) (derived u (class s a.1) (reach j k a.1 h a.3 r f.3) a.5),
      )
  derived (two x u v) k r a =
      let j = a.0 in
      let h = is_node s j a.3 in
      let f = name_pair s (class s j) (node_at s j) x a.1 a.2 (sym (shape_is s j h) ∙ a.5) in (
        production s j,
        at_node j k h a.4 r,
        of_is s (class s j) (node_at s j) ∙ a.4,
        f.0,
        f.1,
        subst (Derives s ps u) (sym f.2) (derived u (class s a.1) (reach j k a.1 h a.4 r f.4) a.6),
        subst (Derives s ps v) (sym f.3) (derived v (class s a.2) (reach j k a.2 h a.4 r f.5) a.7),
      )

  -- a listed production of class k is some node's
  source : (p : Production) (k : ℕ) → Memᴰ p ps → p.of ≡ k
      → (j : ℕ) × IsNode s j × (class s j ≡ k) × (made_by s (class s j) (node_at s j) ≡ p)
  source p k m e =
      let f = L.only p m in
      let j = f.0 in
      (j, f.1, sym (of_is s (class s j) (node_at s j)) ∙ ap (λ (r : Production). r.of) f.3 ∙ e, f.3)

  generated : (u : Build) (k : ℕ) → Derives s ps u k → Grows u k
  generated (alone x) k a =
      let f = source a.0 k a.1 a.2 in
      let j = f.0 in
      let g = atom_of s (class s j) (node_at s j) a.0 f.3 x a.3 a.4 in
      (j, in_table s j f.1, f.2, shape_is s j f.1 ∙ g)
  generated (one x u) k a =
      let f = source a.0 k a.1 a.2 in
      let j = f.0 in
      let b = unary_of s (class s j) (node_at s j) a.0 f.3 x a.3 a.4 in
      let l = generated u a.0.left a.5 in
      (j, b.0, in_table s j f.1, f.2, shape_is s j f.1 ∙ b.1, subst (Grows u) (sym b.2) l)
  generated (two x u v) k a =
      let f = source a.0 k a.1 a.2 in
      let j = f.0 in
      let b = binary_of s (class s j) (node_at s j) a.0 f.3 x a.3 a.4 in
      let l = generated u a.0.left a.5 in
      let r = generated v a.0.right a.6 in (
        j,
        b.0,
        b.1,
        in_table s j f.1,
        f.2,
        shape_is s j f.1 ∙ b.2,
        subst (Grows u) (sym b.3) l,
        subst (Grows v) (sym b.4) r,
      )

pub listed_exact : ListedExact
listed_exact s B n h ps L u =
    let E = exactness (table s) (class s) s.equated (closed_book s B) u n (in_table s n h) in (
      λ q. derived s n ps L u (class s n) top (E.whole.0 q),
      λ d. E.whole.1 (generated s n ps L u (class s n) d),
    )
