-- What each step of a sift keeps.
use Rattle.std.proofs.Common.{◌≡◌, ℕ, zero, suc, ◌+◌, ◌-◌, ◌*◌, ◌/◌, ◌<◌, ◌≤◌, Bool, true, false, List, length, get_or, sym, refl, ap, ◌∙◌, ⊎_elim, arith}
use Rattle.std.specs.Cmp.{IsStrictWeakOrder}
use Rattle.std.specs.Slice.Heapsort.{IsHeapWithin, IsNotBelowChildren}
use Rattle.std.specs.BinaryHeap.Sift.{IsHeapWithHole}
use Rattle.std.proofs.lemmas.Bool.{cases_eq}
use Rattle.std.proofs.lemmas.Bool.Decides.{nat_tests}
use Rattle.std.proofs.lemmas.List.{get_or_default}
use Rattle.queue.specs.declared.Entry.{Entry}
use Rattle.price.specs.Laws.{Order}
use Rattle.queue.specs.Queues.{before, after}

-- ys is xs with the elements at a and b in each other's place, as `swap` says it
abbrev pub Places : {X : Type 0} → List X → List X → ℕ → ℕ → Type 0
Places {X} xs ys a b =
    ((d : X) → get_or ys a d ≡ get_or xs b d) × ((d : X) → get_or ys b d ≡ get_or xs a d)
    × ((k : ℕ) (d : X) → (k ≡ a → ⊥) → (k ≡ b → ⊥) → get_or ys k d ≡ get_or xs k d)

-- the first n would be a heap but for the element at j, which is below none of its children
abbrev pub Up : {X : Type 0} → (X → X → Bool) → List X → ℕ → ℕ → Type 0
Up lt xs j n = IsHeapWithHole lt xs j n × IsNotBelowChildren lt xs j j n

module _ {X : Type 0} (lt : X → X → Bool) where
  by : (a b x y : X) → a ≡ x → b ≡ y → lt x y ≡ false → lt a b ≡ false
  by a b x y p q h = (λ k. lt (p k) (q k)) ∙ h

  pub starts : (xs : List X) (j n : ℕ) → j + 1 ≡ n → IsHeapWithin lt xs 0 j → Up lt xs j n
  starts xs j n e h = (
    (λ p k d a b f u v. h p k d (omega arith) a b (omega arith), λ p k d a b f g i. absurd (omega arith)),
    λ k d a b f. absurd (omega arith),
  )

  pub up : IsStrictWeakOrder lt → (xs ys : List X) (j c n : ℕ) → j * 2 + 1 ≤ c → c ≤ j * 2 + 2 → c < n → Places xs ys j c
      → ((d : X) → lt (get_or xs j d) (get_or xs c d) ≡ true) → Up lt xs c n → Up lt ys j n
  up o xs ys j c n from to in' s t h = (
    (
      λ p k d a b f u v. ⊎_elim
          (λ e. by _ _ _ _ (ap (λ m. get_or ys m d) e ∙ s.1 d) (s.2 k d v (omega arith)) (h.0.1 j k d from to (omega arith) (omega arith) f))
          (λ w. let z : k ≡ c → ⊥ = omega arith in by _ _ _ _ (s.2 p d u w) (s.2 k d v z) (h.0.0 p k d a b f w z)) (cases_eq p c),
      λ p k d a b f g i.
          let over = h.0.0 p j d a b (omega arith) (omega arith) (omega arith) in
          let same = s.2 p d (omega arith) (omega arith) in
          ⊎_elim
          (λ e. by _ _ _ _ same (ap (λ m. get_or ys m d) e ∙ s.1 d) over)
          (λ w. by _ _ _ _ same (s.2 k d (omega arith) w) (o.chain _ _ _ over (h.0.0 j k d f g i (omega arith) w))) (cases_eq k c),
    ),
    λ k d a b f. ⊎_elim
        (λ e. by _ _ _ _ (s.0 d) (ap (λ m. get_or ys m d) e ∙ s.1 d) (o.one_way _ _ (t d)))
        (λ w. by _ _ _ _ (s.0 d) (s.2 k d (omega arith) w) (o.chain _ _ _ (o.one_way _ _ (t d)) (h.0.0 j k d a b f (omega arith) w))) (cases_eq k c),
  )

  -- a heap but for the element at j, whose parent is above its children
  abbrev pub Down : List X → ℕ → ℕ → Type 0
  Down xs j n =
      ((p k : ℕ) (d : X) → p * 2 + 1 ≤ k → k ≤ p * 2 + 2 → k < n → (p ≡ j → ⊥) → lt (get_or xs p d) (get_or xs k d) ≡ false)
      × ((p k : ℕ) (d : X) → p * 2 + 1 ≤ j → j ≤ p * 2 + 2 → j * 2 + 1 ≤ k → k ≤ j * 2 + 2 → k < n → lt (get_or xs p d) (get_or xs k d) ≡ false)

  itself : IsStrictWeakOrder lt → (xs : List X) (j k : ℕ) (d : X) → k ≡ j → lt (get_or xs j d) (get_or xs k d) ≡ false
  itself o xs j k d e = by _ _ _ _ refl (ap (λ m. get_or xs m d) e) (never (get_or xs j d) _ refl)
    where
      never : (x : X) (b : Bool) → lt x x ≡ b → lt x x ≡ false
      never x true e = o.one_way x x e
      never x false e = e

  pub rests : IsStrictWeakOrder lt → (xs : List X) (j c n : ℕ) → ((d : X) → lt (get_or xs j d) (get_or xs c d) ≡ false) → IsNotBelowChildren lt xs j c n → Down xs j n
      → IsHeapWithin lt xs 0 n
  rests o xs j c n t g h = λ p k d a b e f. ⊎_elim
      (λ s. by _ _ _ _ (ap (λ m. get_or xs m d) s) refl (o.chain _ _ _ (t d) (g k d (omega arith) (omega arith) f)))
      (λ u. h.0 p k d b e f u) (cases_eq p j)

  pub sinks : IsStrictWeakOrder lt → (xs ys : List X) (j c n : ℕ) → j * 2 + 1 ≤ c → c ≤ j * 2 + 2 → c < n → Places xs ys j c
      → ((d : X) → lt (get_or xs j d) (get_or xs c d) ≡ true) → IsNotBelowChildren lt xs j c n → Down xs j n → Down ys c n
  sinks o xs ys j c n from to in' s t g h = (
    λ p k d b e f u. ⊎_elim
        (λ q. ⊎_elim
        (λ v. by _ _ _ _ (ap (λ m. get_or ys m d) q ∙ s.0 d) (ap (λ m. get_or ys m d) v ∙ s.1 d) (o.one_way _ _ (t d)))
        (λ v. by _ _ _ _ (ap (λ m. get_or ys m d) q ∙ s.0 d) (s.2 k d (omega arith) v) (g k d (omega arith) (omega arith) f)) (cases_eq k c))
        (λ q. ⊎_elim
        (λ v. by _ _ _ _ (s.2 p d q u) (ap (λ m. get_or ys m d) v ∙ s.0 d) (h.1 p c d (omega arith) (omega arith) from to in'))
        (λ v. let w : k ≡ c → ⊥ = omega arith in by _ _ _ _ (s.2 p d q u) (s.2 k d v w) (h.0 p k d b e f q)) (cases_eq k j)) (cases_eq p j),
    λ p k d b e f i l. let q : p ≡ j = omega arith in by _ _ _ _ (ap (λ m. get_or ys m d) q ∙ s.0 d) (s.2 k d (omega arith) (omega arith)) (h.0 c k d f i l (omega arith)),
  )

  -- the first of a heap is below no other
  pub top : IsStrictWeakOrder lt → (xs : List X) (n : ℕ) (d : X) → IsHeapWithin lt xs 0 n → (fuel k : ℕ) → k ≤ fuel → k < n → lt (get_or xs 0 d) (get_or xs k d) ≡ false
  top o xs n d h zero k a b = itself o xs 0 k d (omega arith)
  top o xs n d h (suc fuel) k a b = ⊎_elim (itself o xs 0 k d)
      (λ u. o.chain _ _ _ (top o xs n d h fuel ((k - 1) / 2) (omega arith) (omega arith)) (h ((k - 1) / 2) k d (omega arith) (omega arith) (omega arith) b)) (cases_eq k 0)

  -- a heap by its elements below m
  pub agrees : (xs ys : List X) (low n m : ℕ) → m ≤ n → ((i : ℕ) (d : X) → low ≤ i → i < m → get_or ys i d ≡ get_or xs i d) → IsHeapWithin lt xs low n
      → IsHeapWithin lt ys low m
  agrees xs ys low n m le e h = λ p k d lo a b f. by _ _ _ _ (e p d lo (omega arith)) (e k d (omega arith) f) (h p k d lo a b (omega arith))

-- what a test of two entries of a list tells of them
pub told : {C : Type 0} (below : C → C → Bool) (xs : List (Entry C)) (i j : ℕ) (x y : Entry C) → i < length xs → j < length xs → x ≡ get_or xs i x
    → y ≡ get_or xs j y → (r : Bool) → r ≡ before below x y → (d : Entry C) → before below (get_or xs i d) (get_or xs j d) ≡ r
told below xs i j x y li lj ix iy r e d = sym (λ k. before below ((ix ∙ get_or_default xs i x d li) k) ((iy ∙ get_or_default xs j y d lj) k)) ∙ sym e

-- the order of entries, from the laws of the order of costs
module _ {C : Type 0} (below : C → C → Bool) (law : Order below) where
  one_way : (x y : Entry C) → after below x y ≡ true → after below y x ≡ false
  one_way x y h =
      let i = law.irreflexive x.cost in
      let t = law.transitive x.cost y.cost x.cost in
      grind (arith, nat_tests)

  chain : (x y z : Entry C) → after below x y ≡ false → after below y z ≡ false → after below x z ≡ false
  chain x y z h k =
      let a = x.cost in
      let b = y.cost in
      let c = z.cost in
      let t = law.transitive b c a in
      let u = law.total c b in
      let v = law.total a c in
      grind (arith, nat_tests)

  pub ranks : IsStrictWeakOrder (after below)
  ranks = record { one_way = one_way; chain = chain }
