-- What is marked, step by step: only classes that are reached, and in the end all of them.
use Rattle.std.proofs.Common.{◌≡◌, ℕ, ◌<◌, ◌≤◌, true, ltb, ◌⊎◌, List, length, get_or, set, replicate, sym, ap, ◌∙◌, subst, inl, inr, arith, length-set}
use lib.ListN.{length-replicate}
use Rattle.std.proofs.lemmas.Bool.{cases_eq, cases_lt, lt-ltb, le-ltb}
use Rattle.std.proofs.lemmas.List.{get_or-set_same, get_or-set_other, get_or-replicate, get_or_past}
use Rattle.theory.specs.Steps.{SetAt, falses}
use Rattle.theory.proofs.Stages.{falses_set}
use Rattle.theory.specs.Books.{State, class as class_at}
use Rattle.theory.specs.Productions.{Reached, top, below}
use Rattle.book.specs.declared.row.Row.{Row}
use Rattle.book.specs.Rows.{row, class}
use Rattle.listing.specs.Nodes.{state_in}
use Rattle.listing.specs.Marking.{IsMarked, Covered, Closed, Missed, OnlyReached, zeros}
use Rattle.listing.proofs.Nodes.{Counted, class_in, counted}

module _ (xs : List Row) (ms : List ℕ) (j : ℕ) where
  pub covered_by : (0 < (row xs j).node.parts → IsMarked ms (class xs (row xs j).node.left))
      → (1 < (row xs j).node.parts → IsMarked ms (class xs (row xs j).node.right)) → Covered (state_in xs) ms j
  covered_by f g p q = subst (IsMarked ms) (sym (class_in xs p)) (go (counted xs j p q))
    where
      go : Counted (row xs j).node p → IsMarked ms (class xs p)
      go (inl t) = subst (λ (i : ℕ). IsMarked ms (class xs i)) (sym t.1) (f t.0)
      go (inr t) = subst (λ (i : ℕ). IsMarked ms (class xs i)) (sym t.1) (g t.0)

module _ (ms : List ℕ) (k : ℕ) (h : k < length ms) where
  pub set_marked : IsMarked (set ms k 1) k
  set_marked = omega (arith, get_or-set_same ms k 1 0 h)

  pub still_marked : (i : ℕ) → IsMarked ms i → IsMarked (set ms k 1) i
  still_marked i m = go (cases_eq i k)
    where
      go : (i ≡ k) ⊎ (i ≡ k → ⊥) → IsMarked (set ms k 1) i
      go (inl e) = subst (IsMarked (set ms k 1)) (sym e) set_marked
      go (inr n) = omega (arith, get_or-set_other ms k i 1 0 n)

  -- a mark more
  pub fewer : get_or ms k 0 ≡ 0 → zeros (set ms k 1) < zeros ms
  fewer e =
      let old = λ (i : ℕ). ltb 0 (get_or ms i 0) in
      let new = λ (i : ℕ). ltb 0 (get_or (set ms k 1) i 0) in
      let s : SetAt old new k true = record { here = lt-ltb 0 _ set_marked; other = λ i n. ap (ltb 0) (get_or-set_other ms k i 1 0 n) } in
      let f = falses_set old new k (length ms) s (le-ltb 0 _ (omega arith)) h in
      let z : falses new (length (set ms k 1)) ≡ falses new (length ms) = ap (falses new) (length-set ms k 1) in
      omega arith

module _ (s : State) (n : ℕ) where
  only_more : (ms : List ℕ) (k : ℕ) → OnlyReached s n ms → Reached s n k → OnlyReached s n (set ms k 1)
  only_more ms k o r i m = go (cases_eq i k)
    where
      go : (i ≡ k) ⊎ (i ≡ k → ⊥) → Reached s n i
      go (inl e) = subst (Reached s n) (sym e) r
      go (inr d) = o i (omega (arith, get_or-set_other ms k i 1 0 d))

  -- the class of a part of a node whose class is marked
  pub only_missed : (ms : List ℕ) (k : ℕ) → OnlyReached s n ms → Missed s ms k → OnlyReached s n (set ms k 1)
  only_missed ms k o b =
      let m = b.misses in
      only_more ms k o (subst (Reached s n) (sym m.of_part) (below b.node m.part b.is_node (o (class_at s b.node) b.marked) m.is_part))

  -- no mark but the node's own class
  only_own : (size : ℕ) → OnlyReached s n (set (replicate size 0) (class_at s n) 1)
  only_own size = only_more (replicate size 0) (class_at s n) (λ i m. absurd (omega (arith, none i (cases_lt i size)))) top
    where
      none : (i : ℕ) → (i < size) ⊎ (size ≤ i) → ◌≡◌ {A = ℕ} (get_or (replicate size 0) i 0) 0
      none i (inl h) = get_or-replicate size i 0 0 h
      none i (inr h) = get_or_past (replicate size 0) i 0 (omega (arith, length-replicate {A = ℕ} size 0))

  pub all_reached : (ms : List ℕ) → Closed s ms (length s.nodes) → IsMarked ms (class_at s n) → (k : ℕ) → Reached s n k → IsMarked ms k
  all_reached ms c m k top = m
  all_reached ms c m k (below j p h r q) = c j h (all_reached ms c m (class_at s j) r) p q

pub first_mark : (xs : List Row) (n size : ℕ) (ms : List ℕ) → class xs n < size → ms ≡ set (replicate size 0) (class xs n) 1
    → OnlyReached (state_in xs) n ms × IsMarked ms (class_at (state_in xs) n)
first_mark xs n size ms h e =
    let s = state_in xs in
    let k = class_at s n in
    subst (λ (l : List ℕ). OnlyReached s n l × IsMarked l k) (ap (λ (i : ℕ). set (replicate size 0) i 1) (class_in xs n) ∙ sym e)
    (only_own s n size, set_marked (replicate size 0) k (omega (arith, class_in xs n, length-replicate {A = ℕ} size 0)))
