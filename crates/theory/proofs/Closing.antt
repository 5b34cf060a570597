-- Merging the classes of equal nodes keeps what the classes say true, and leaves fewer classes.
use Rattle.std.proofs.Common.{◌≡◌, ℕ, zero, suc, ◌<◌, ◌≤◌, ◌≢◌, ◌⊎◌, length, sym, refl, ap, ◌∙◌, subst, inl, inr, not-suc-le-zero, arith}
use native.Mathlib.Decide.{ℕ_discrete}
use Rattle.std.proofs.lemmas.Bool.Decides.{nat_tests}
use Rattle.theory.specs.Builds.{Build}
use Rattle.theory.specs.Equality.{Equal, same, turned, joined, in_one, in_two}
use Rattle.theory.specs.Tables.{Shape, atom, unary, binary, Table, PartsFirst, NodePairs, shape_at, build_at, equations, EachPart, map_parts, build_over}
use Rattle.theory.specs.Steps.{Partway, Merged, Merge, class_count, Closing}
use Rattle.theory.proofs.Tables.{build_step, each_map}

start : (t : Table) (es : NodePairs) → PartsFirst t → Partway t (λ i. i) es
start t es l =
    record {
      lower = l;
      least = λ i h. omega arith;
      fixed = λ i h. refl;
      sound = λ i j h k e. subst (λ (m : ℕ). Equal (equations t es) (build_at t i) (build_at t m)) e same;
    }

-- where fewer nodes have their own number for a class, the classes are fewer
no_more : (n : ℕ) (class to : ℕ → ℕ) → ((i : ℕ) → i < n → to i ≡ i → class i ≡ i) → class_count n to ≤ class_count n class
no_more zero class to f = omega arith
no_more (suc n) class to f =
    let ih = no_more n class to (λ i h. f i (omega arith)) in
    let g = f n (omega arith) in
    grind (arith, nat_tests)

fewer : (n : ℕ) (class to : ℕ → ℕ) → ((i : ℕ) → i < n → to i ≡ i → class i ≡ i) → (d : ℕ) → d < n → class d ≡ d → to d ≢ d
    → class_count n to < class_count n class
fewer zero class to f d h p q = absurd (not-suc-le-zero h)
fewer (suc n) class to f d h p q = go (ℕ_discrete d n) (λ l. fewer n class to (λ i k. f i (omega arith)) d l p q)
  where
    go : Dec (d ≡ n) → (d < n → class_count n to < class_count n class) → class_count (suc n) to < class_count (suc n) class
    go (yes e) ih' =
        let ih = no_more n class to (λ i l. f i (omega arith)) in
        let p' : class n ≡ n = cc in
        let q' : to n ≢ n = λ r. q (cc) in
        grind (arith, nat_tests)
    go (no e) ih' =
        let ih = ih' (omega arith) in
        let g = f n (omega arith) in
        grind (arith, nat_tests)

module _ (t : Table) (class : ℕ → ℕ) (es : NodePairs) (partway : Partway t class es) where
  -- a node is equal to the first of its class
  rep : (p : ℕ) → p < length t → Equal (equations t es) (build_at t p) (build_at t (class p))
  rep p h = partway.sound p (class p) h (omega (arith, partway.least p h)) (sym (partway.fixed p h))

  -- a shape's build is equal to that over the first nodes of its parts' classes
  canon : (x : Shape) → EachPart (λ p. p < length t) x
      → Equal (equations t es) (build_over (build_at t) x) (build_over (build_at t) (map_parts class x))
  canon (atom s) a = same
  canon (unary s p) a = in_one (rep p a)
  canon (binary s p q) a = in_two (rep p a.0) (rep q a.1)

  at_canon : (i : ℕ) → i < length t → Equal (equations t es) (build_at t i) (build_over (build_at t) (map_parts class (shape_at t i)))
  at_canon i h =
      subst (λ (b : Build). Equal (equations t es) b (build_over (build_at t) (map_parts class (shape_at t i))))
      (sym (build_step t i h (partway.lower i h)))
      (canon (shape_at t i) (each_map (λ p. p < i) (λ p. p < length t) (λ p m. omega arith) (shape_at t i) (partway.lower i h)))

  alike : (i j : ℕ) → i < length t → j < length t → map_parts class (shape_at t i) ≡ map_parts class (shape_at t j)
      → Equal (equations t es) (build_at t i) (build_at t j)
  alike i j h l e =
      joined (at_canon i h)
      (subst (λ (x : Shape). Equal (equations t es) (build_over (build_at t) x) (build_at t j)) (sym e) (turned (at_canon j l)))

  module _ (to : ℕ → ℕ) (a b : ℕ) (h : a < length t) (l : b < length t) (less : class a < class b)
      (q : Equal (equations t es) (build_at t a) (build_at t b)) (m : Merged (length t) class to a b) where
    -- node i moved with the class of b, or stayed
    abbrev Went : ℕ → Type 0
    Went i = ((class i ≡ class b) × (to i ≡ class a)) ⊎ ((class i ≢ class b) × (to i ≡ class i))

    went : (i : ℕ) → i < length t → Went i
    went i k = go (ℕ_discrete (class i) (class b))
      where
        go : Dec (class i ≡ class b) → Went i
        go (yes e) = inl (e, m.moved i k e)
        go (no e) = inr (e, m.kept i k e)

    stays : (i : ℕ) → i < length t → class i ≢ class b → to (class i) ≡ class i
    stays i k e = m.kept (class i) (omega (arith, partway.least i k)) (λ r. e (sym (partway.fixed i k) ∙ r)) ∙ partway.fixed i k

    fixed : (i : ℕ) → i < length t → to (to i) ≡ to i
    fixed i k = go (went i k)
      where
        go : Went i → to (to i) ≡ to i
        go (inl e) = let r = stays a h (omega arith) in let e1 = e.1 in cc
        go (inr e) = let r = stays i k e.0 in let e1 = e.1 in cc

    sound : (i j : ℕ) → i < length t → j < length t → to i ≡ to j → Equal (equations t es) (build_at t i) (build_at t j)
    sound i j k k' e = go (went i k) (went j k')
      where
        go : Went i → Went j → Equal (equations t es) (build_at t i) (build_at t j)
        go (inl x) (inl y) = partway.sound i j k k' (cc)
        go (inl x) (inr y) = joined (partway.sound i b k l x.0) (joined (turned q) (partway.sound a j h k' (cc)))
        go (inr x) (inl y) = joined (partway.sound i a k h (cc)) (joined q (partway.sound b j l k' (cc)))
        go (inr x) (inr y) = partway.sound i j k k' (cc)

    coarser : (i j : ℕ) → i < length t → j < length t → class i ≡ class j → to i ≡ to j
    coarser i j k k' e = go (went i k) (went j k')
      where
        go : Went i → Went j → to i ≡ to j
        go (inl x) (inl y) = cc
        go (inl x) (inr y) = omega arith
        go (inr x) (inl y) = omega arith
        go (inr x) (inr y) = omega arith

    merge : Merge t class to es a b
    merge =
        record {
          still = record {
            lower = partway.lower;
            least = λ i k. omega (arith, went i k, partway.least i k);
            fixed = fixed;
            sound = sound;
          };
          coarser = coarser;
          joins = omega (arith, went a h, went b l);
          fewer = fewer (length t) class to
              (λ i k e. omega (arith, went i k, partway.fixed a h, ap class e))
              (class b) (omega (arith, partway.least b l)) (partway.fixed b l)
              (omega (arith, went (class b) (omega (arith, partway.least b l)), partway.fixed b l));
        }

pub closing : Closing
closing = record { start = start; alike = alike; merge = λ t class to es partway a b h l e q m. merge t class es partway to a b h l e q m }
