-- Whether two nodes are equal can be decided: classes start as single nodes and merge until the table is closed.
use Rattle.std.proofs.Common.{◌≡◌, ℕ, zero, suc, ◌<◌, Bool, cond, eqb, ◌≢◌, ◌⊎◌, [], ◌∷◌, length, refl, ap, subst, ap₂, inl, inr, not-suc-le-zero, arith}
use mathlib.Core.Logic.{∥∥₁_elim}
use mathlib.Core.HLevel.{⊥_prop}
use mathlib.Core.List.Memᴰ
use mathlib.Core.List.{List-discrete, Memᴰ}
use native.Mathlib.Decide.{ℕ_discrete, dec_lt}
use Rattle.std.proofs.lemmas.Bool.{eq-eqb, ne_eqb}
use Rattle.theory.specs.Equality.{Equal, given, turned}
use Rattle.theory.specs.Tables.{Shape, atom, unary, binary, Table, NodePairs, PartsFirst, Closed, shape_at, build_at, equations, map_parts}
use Rattle.theory.specs.Steps.{Partway, Merged, class_count}
use Rattle.theory.proofs.Closing.{closing}
use Rattle.theory.proofs.Grammar.{completeness}

shape_discrete : (x y : Shape) → Dec (x ≡ y)
shape_discrete (atom x) (atom y) = go (List-discrete ℕ_discrete x y)
  where
    go : Dec (x ≡ y) → Dec (atom x ≡ atom y)
    go (yes e) = yes (ap atom e)
    go (no e) = no (λ q. e (cc))
shape_discrete (atom x) (unary y p) = no (λ e. let z : ◌≡◌ {A = ℕ} 0 1 = cc in omega arith)
shape_discrete (atom x) (binary y p q) = no (λ e. let z : ◌≡◌ {A = ℕ} 0 1 = cc in omega arith)
shape_discrete (unary x p) (atom y) = no (λ e. let z : ◌≡◌ {A = ℕ} 0 1 = cc in omega arith)
shape_discrete (unary x p) (unary y q) = go (List-discrete ℕ_discrete x y) (ℕ_discrete p q)
  where
    go : Dec (x ≡ y) → Dec (p ≡ q) → Dec (unary x p ≡ unary y q)
    go (yes e) (yes f) = yes (ap₂ unary e f)
    go (no e) f = no (λ q. e (cc))
    go (yes e) (no f) = no (λ q. f (cc))
shape_discrete (unary x p) (binary y q r) = no (λ e. let z : ◌≡◌ {A = ℕ} 0 1 = cc in omega arith)
shape_discrete (binary x p q) (atom y) = no (λ e. let z : ◌≡◌ {A = ℕ} 0 1 = cc in omega arith)
shape_discrete (binary x p q) (unary y r) = no (λ e. let z : ◌≡◌ {A = ℕ} 0 1 = cc in omega arith)
shape_discrete (binary x p q) (binary y r s) = go (List-discrete ℕ_discrete x y) (ℕ_discrete p r) (ℕ_discrete q s)
  where
    go : Dec (x ≡ y) → Dec (p ≡ r) → Dec (q ≡ s) → Dec (binary x p q ≡ binary y r s)
    go (yes e) (yes f) (yes g) = yes (cc)
    go (no e) f g = no (λ h. e (cc))
    go (yes e) (no f) g = no (λ h. f (cc))
    go (yes e) (yes f) (no g) = no (λ h. g (cc))

-- below n there is a number with the property, or none
find : (P : ℕ → Type 0) → ((k : ℕ) → Dec (P k)) → (n : ℕ) → ((k : ℕ) × (k < n) × P k) ⊎ ((k : ℕ) → k < n → P k → ⊥)
find P d zero = inr (λ k h p. not-suc-le-zero h)
find P d (suc n) = go (find P d n) (d n)
  where
    last : ((k : ℕ) → k < n → P k → ⊥) → (P n → ⊥) → (k : ℕ) → k < suc n → P k → ⊥
    last f g k h p = at (ℕ_discrete k n)
      where
        at : Dec (k ≡ n) → ⊥
        at (yes e) = g (subst P e p)
        at (no e) = f k (omega arith) p

    go : ((k : ℕ) × (k < n) × P k) ⊎ ((k : ℕ) → k < n → P k → ⊥) → Dec (P n)
        → ((k : ℕ) × (k < suc n) × P k) ⊎ ((k : ℕ) → k < suc n → P k → ⊥)
    go (inl f) e = inl (f.0, omega (arith, f.1), f.2)
    go (inr f) (yes e) = inl (n, omega arith, e)
    go (inr f) (no e) = inr (last f e)

-- some pair of the list has the property, or none
find_pair : (P : ℕ × ℕ → Type 0) → ((e : ℕ × ℕ) → Dec (P e)) → (es : NodePairs)
    → ((e : ℕ × ℕ) × Memᴰ e es × P e) ⊎ ((e : ℕ × ℕ) → Memᴰ e es → P e → ⊥)
find_pair P d [] = inr (λ e m p. Memᴰ.not-nil m)
find_pair P d (x ∷ es) = go (find_pair P d es) (d x)
  where
    neither : ((e : ℕ × ℕ) → Memᴰ e es → P e → ⊥) → (P x → ⊥) → (e : ℕ × ℕ) → Memᴰ e (x ∷ es) → P e → ⊥
    neither f g e m p = at (Memᴰ.cases_cons m)
      where
        at : (e ≡ x) ⊎ Memᴰ e es → ⊥
        at (inl q) = g (subst P q p)
        at (inr q) = f e q p

    go : ((e : ℕ × ℕ) × Memᴰ e es × P e) ⊎ ((e : ℕ × ℕ) → Memᴰ e es → P e → ⊥) → Dec (P x)
        → ((e : ℕ × ℕ) × Memᴰ e (x ∷ es) × P e) ⊎ ((e : ℕ × ℕ) → Memᴰ e (x ∷ es) → P e → ⊥)
    go (inl f) e = inl (f.0, Memᴰ.tail f.1, f.2)
    go (inr f) (yes e) = inl (x, Memᴰ.head refl, e)
    go (inr f) (no e) = inr (neither f e)

module _ (t : Table) (es : NodePairs) (lower : PartsFirst t)
    (distinct : (i j : ℕ) → i < length t → j < length t → shape_at t i ≡ shape_at t j → i ≡ j)
    (between : (i j : ℕ) → Memᴰ (i, j) es → (i < length t) × (j < length t)) where
  -- nodes of one name over parts of one class, in two classes
  abbrev Apart : (ℕ → ℕ) → ℕ → ℕ → Type 0
  Apart class i j = (class i ≢ class j) × (map_parts class (shape_at t i) ≡ map_parts class (shape_at t j))

  apart : (class : ℕ → ℕ) (i j : ℕ) → Dec (Apart class i j)
  apart class i j = go (ℕ_discrete (class i) (class j)) (shape_discrete (map_parts class (shape_at t i)) (map_parts class (shape_at t j)))
    where
      go : Dec (class i ≡ class j) → Dec (map_parts class (shape_at t i) ≡ map_parts class (shape_at t j)) → Dec (Apart class i j)
      go (yes e) d = no (λ a. a.0 e)
      go (no e) (yes f) = yes (e, f)
      go (no e) (no f) = no (λ a. f a.1)

  abbrev Further : (ℕ → ℕ) → Type 0
  Further class = (to : ℕ → ℕ) × Partway t to es × (class_count (length t) to < class_count (length t) class)

  -- the classes of two equal nodes can be merged
  onward : (class : ℕ → ℕ) → Partway t class es → (a b : ℕ) → a < length t → b < length t → class a < class b
      → Equal (equations t es) (build_at t a) (build_at t b) → Further class
  onward class P a b h l less q =
      let to = λ (k : ℕ). cond (eqb (class k) (class b)) (class a) (class k) in
      let m : Merged (length t) class to a b
      = record {
        moved = λ i g e. ap (λ (v : Bool). cond v (class a) (class i)) (eq-eqb (class i) (class b) e);
        kept = λ i g e. ap (λ (v : Bool). cond v (class a) (class i)) (ne_eqb (class i) (class b) e);
      } in
      let M = closing.merge t class to es P a b h l less q m in
      (to, M.still, M.fewer)

  either_way : (class : ℕ → ℕ) → Partway t class es → (a b : ℕ) → a < length t → b < length t → class a ≢ class b
      → Equal (equations t es) (build_at t a) (build_at t b) → Further class
  either_way class P a b h l ne q = go (dec_lt (class a) (class b))
    where
      go : Dec (class a < class b) → Further class
      go (yes e) = onward class P a b h l e q
      go (no e) = onward class P b a l h (omega arith) (turned q)

  -- merged until there is nothing to merge
  close : (f : ℕ) (class : ℕ → ℕ) → Partway t class es → class_count (length t) class < f → (to : ℕ → ℕ) × Closed t to es
  close zero class P h = absurd (not-suc-le-zero h)
  close (suc f) class P h =
      go (find (λ i. (j : ℕ) × (j < length t) × Apart class i j) row (length t))
      (find_pair (λ (e : ℕ × ℕ). class e.0 ≢ class e.1) (λ e. flip (ℕ_discrete (class e.0) (class e.1))) es)
      (λ to Q l. close f to Q (omega arith))
    where
      flip : {A : Type 0} → Dec A → Dec (A → ⊥)
      flip (yes a) = no (λ g. g a)
      flip (no a) = yes a

      row : (i : ℕ) → Dec ((j : ℕ) × (j < length t) × Apart class i j)
      row i = at (find (Apart class i) (apart class i) (length t))
        where
          at : ((j : ℕ) × (j < length t) × Apart class i j) ⊎ ((j : ℕ) → j < length t → Apart class i j → ⊥)
              → Dec ((j : ℕ) × (j < length t) × Apart class i j)
          at (inl a) = yes a
          at (inr a) = no (λ b. a b.0 b.1 b.2)

      same_of : (i j : ℕ) → (class i ≢ class j → ⊥) → class i ≡ class j
      same_of i j g = at (ℕ_discrete (class i) (class j))
        where
          at : Dec (class i ≡ class j) → class i ≡ class j
          at (yes e) = e
          at (no e) = absurd (g e)

      go : ((i : ℕ) × (i < length t) × ((j : ℕ) × (j < length t) × Apart class i j))
          ⊎ ((i : ℕ) → i < length t → (j : ℕ) × (j < length t) × Apart class i j → ⊥)
          → ((e : ℕ × ℕ) × Memᴰ e es × (class e.0 ≢ class e.1)) ⊎ ((e : ℕ × ℕ) → Memᴰ e es → class e.0 ≢ class e.1 → ⊥)
          → ((to : ℕ → ℕ) → Partway t to es → class_count (length t) to < class_count (length t) class → (to : ℕ → ℕ) × Closed t to es)
          → (to : ℕ → ℕ) × Closed t to es
      go (inl a) b on =
          let i = a.0 in
          let j = a.2.0 in
          let w = either_way class P i j a.1 a.2.1 a.2.2.0 (closing.alike t class es P i j a.1 a.2.1 a.2.2.1) in
          on w.0 w.1 w.2
      go (inr a) (inl b) on =
          let e = b.0 in
          let g = between e.0 e.1 b.1 in
          let w = either_way class P e.0 e.1 g.0 g.1 b.2 (given (Memᴰ.map (λ (e : ℕ × ℕ). (build_at t e.0, build_at t e.1)) b.1)) in
          on w.0 w.1 w.2
      go (inr a) (inr b) on = (
        class,
        record {
          lower = lower;
          least = P.least;
          fixed = P.fixed;
          congruent = λ i j k l e. same_of i j (λ ne. a i k (j, l, (ne, e)));
          joined = λ i j m. let g = between i j m in (g.0, g.1, same_of i j (λ ne. b (i, j) m ne));
          sound = P.sound;
          distinct = distinct;
        },
      )

  pub decide_equal : (i j : ℕ) → i < length t → j < length t → Dec (Equal (equations t es) (build_at t i) (build_at t j))
  decide_equal i j h l =
      let C = close (suc (class_count (length t) (λ k. k))) (λ k. k) (closing.start t es lower) (omega arith) in
      go C.0 C.1 (ℕ_discrete (C.0 i) (C.0 j))
    where
      go : (class : ℕ → ℕ) → Closed t class es → Dec (class i ≡ class j) → Dec (Equal (equations t es) (build_at t i) (build_at t j))
      go class K (yes e) = yes ((completeness t class es K i j h l).1 e)
      go class K (no e) = no (λ q. e ((completeness t class es K i j h l).0 q))

  -- so it is enough to know that they are equal in some way
  pub some_equal : (i j : ℕ) → i < length t → j < length t → ∥ Equal (equations t es) (build_at t i) (build_at t j) ∥₁
      → Equal (equations t es) (build_at t i) (build_at t j)
  some_equal i j h l q = go (decide_equal i j h l)
    where
      go : Dec (Equal (equations t es) (build_at t i) (build_at t j)) → Equal (equations t es) (build_at t i) (build_at t j)
      go (yes e) = e
      go (no e) = absurd (∥∥₁_elim q ⊥_prop e)
