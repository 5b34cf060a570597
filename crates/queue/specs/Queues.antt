-- The priority queue: a heap over the first entries of a lent slice. Cited by the queue.
--
-- | word      | meaning                                                                                    |
-- |-----------|--------------------------------------------------------------------------------------------|
-- | below     | the first cost is below the second, by the rule that is lent to the call                   |
-- | before    | the first entry goes before the second: by cost, and equal costs by the lower node number  |
-- | after     | the first entry goes after the second                                                      |
-- | slice     | what the lent slice has, of which the first entries are held                               |
-- | held      | the entries that are held; the slice behind them is free                                   |
-- | Heaped    | of the first n entries none goes before its parent                                         |
-- | OrderedIn | of a list the first n entries are held, and they are heaped                                |
-- | Ordered   | the queue is in order for the rule: it holds no more than the slice, and that is heaped    |
-- | First     | none of the entries goes before x                                                          |
-- | has_room  | the slice has room for one entry more                                                      |
-- | Same      | a call left the queue as it was                                                            |
-- | Pushed    | after a push it holds what it held, and the entry                                          |
-- | Popped    | after a pop it holds what it held, but the entry that was yielded                          |
-- | IsParent  | the entry at p is the parent of the one at k                                               |
-- | GoesFirst | the entry at c is a child of the one at i, and no child of that goes before it             |
-- | Rising    | heaped but for the last entry, where a sift up starts                                      |
-- | Sinking   | heaped but for the first entry, where a sift down starts                                   |
use Rattle.std.specs.Prelude.{◌≡◌, ℕ, ◌+◌, ◌*◌, ◌<◌, ◌≤◌, Bool, true, false, cond, List, ◌∷◌, length, take, nat_lt}
use Rattle.std.specs.Slice.Heapsort.{IsHeapWithin, IsNotBelowChildren}
use Rattle.std.specs.List.Sorted.{IsPermutation}
use Rattle.std.specs.List.{AllByRecursion}
use Rattle.queue.specs.declared.Entry.{Entry}
use Rattle.queue.specs.declared.Queue.{Queue}

abbrev pub before : {C : Type 0} → (C → C → Bool) → Entry C → Entry C → Bool
before below x y = cond (below x.cost y.cost) true (cond (below y.cost x.cost) false (nat_lt x.node y.node))

abbrev pub after : {C : Type 0} → (C → C → Bool) → Entry C → Entry C → Bool
after below x y = before below y x

abbrev pub slice : {C : Type 0} → Queue C → List (Entry C)
slice q = q.entries.now

abbrev pub held : {C : Type 0} → Queue C → List (Entry C)
held q = take q.count (slice q)

abbrev pub Heaped : {C : Type 0} → (C → C → Bool) → ℕ → List (Entry C) → Type 0
Heaped below n es = IsHeapWithin (after below) es 0 n

abbrev pub OrderedIn : {C : Type 0} → (C → C → Bool) → ℕ → List (Entry C) → Type 0
OrderedIn below n es = (n ≤ length es) × Heaped below n es

abbrev pub Ordered : {C : Type 0} → (C → C → Bool) → Queue C → Type 0
Ordered below q = OrderedIn below q.count (slice q)

abbrev pub First : {C : Type 0} → (C → C → Bool) → Entry C → List (Entry C) → Type 0
First below x es = AllByRecursion (λ y. before below y x ≡ false) es

abbrev pub has_room : {C : Type 0} → Queue C → Bool
has_room q = nat_lt q.count (length (slice q))

pub record Same {C : Type 0} (q q' : Queue C) : Type 0 where
  pub count : q'.count ≡ q.count
  pub entries : slice q' ≡ slice q

pub record Pushed {C : Type 0} (e : Entry C) (q q' : Queue C) : Type 0 where
  pub count : q'.count ≡ q.count + 1
  pub adds : IsPermutation (e ∷ held q) (held q')

pub record Popped {C : Type 0} (x : Entry C) (q q' : Queue C) : Type 0 where
  pub count : q.count ≡ q'.count + 1
  pub takes : IsPermutation (held q) (x ∷ held q')

abbrev pub IsParent : ℕ → ℕ → Type 0
IsParent p k = (p * 2 + 1 ≤ k) × (k ≤ p * 2 + 2)

pub record GoesFirst {C : Type 0} (below : C → C → Bool) (es : List (Entry C)) (i c : ℕ) : Type 0 where
  pub child : IsParent i c
  pub within : c < length es
  pub foremost : IsNotBelowChildren (after below) es i c (length es)

abbrev pub Rising : {C : Type 0} → (C → C → Bool) → List (Entry C) → Type 0
Rising below es = (n : ℕ) → n + 1 ≡ length es → Heaped below n es

abbrev pub Sinking : {C : Type 0} → (C → C → Bool) → List (Entry C) → Type 0
Sinking below es = IsHeapWithin (after below) es 1 (length es)
