-- One step towards a closed table, and one step towards settled choices. Cited by the loops that merge classes and that settle them.
--
-- | word        | meaning                                                                                  |
-- |-------------|------------------------------------------------------------------------------------------|
-- | Partway     | classes on the way to being closed: what they say is so, and they may not say all yet    |
-- | Merged      | the second classes are the first, with the class of b merged into the class of a         |
-- | class_count | how many classes the first n nodes have                                                  |
-- | Merge       | what a merge of equal nodes' classes gives: still partway, coarser, and one class fewer  |
-- | Closing     | the steps: start with a class for each node, find nodes that are equal, merge            |
-- | Underway    | choices on the way to being settled: `done` marks the classes, `now` counts them         |
-- | Next        | node m may be chosen next: its parts are done, and no node that may be chosen is cheaper |
-- | SetAt       | a function changed at one place                                                          |
-- | falses      | of how many of the first n numbers a test does not hold                                  |
-- | Settling    | the steps: start with none done, find a node to choose, choose it, finish with all done  |
use Rattle.std.specs.Prelude.{◌≡◌, ℕ, zero, suc, ◌<◌, ◌≤◌, Bool, true, false, cond, ◌≢◌, length, ◌==◌}
use Rattle.theory.specs.Equality.{Equal}
use Rattle.theory.specs.Tables.{Table, NodePairs, PartsFirst, shape_at, build_at, equations, EachPart, map_parts}
use Rattle.theory.specs.Costs.{Rule, RuleLaws, AtMost, cost_over, Settled}

pub record Partway (t : Table) (class : ℕ → ℕ) (es : NodePairs) : Type 0 where
  pub lower : PartsFirst t
  pub least : (i : ℕ) → i < length t → class i ≤ i
  pub fixed : (i : ℕ) → i < length t → class (class i) ≡ class i
  pub sound : (i j : ℕ) → i < length t → j < length t → class i ≡ class j → Equal (equations t es) (build_at t i) (build_at t j)

pub record Merged (n : ℕ) (class to : ℕ → ℕ) (a b : ℕ) : Type 0 where
  pub moved : (i : ℕ) → i < n → class i ≡ class b → to i ≡ class a
  pub kept : (i : ℕ) → i < n → class i ≢ class b → to i ≡ class i

-- a node whose class is its own number counts for its class
abbrev pub class_count : ℕ → (ℕ → ℕ) → ℕ
class_count zero class = 0
class_count (suc n) class = cond (class n == n) (suc (class_count n class)) (class_count n class)

pub record Merge (t : Table) (class to : ℕ → ℕ) (es : NodePairs) (a b : ℕ) : Type 0 where
  pub still : Partway t to es
  pub coarser : (i j : ℕ) → i < length t → j < length t → class i ≡ class j → to i ≡ to j
  pub joins : to a ≡ to b
  pub fewer : class_count (length t) to < class_count (length t) class

pub record Closing : Type 0 where
  -- at the start each node is a class
  pub start : (t : Table) (es : NodePairs) → PartsFirst t → Partway t (λ i. i) es
  -- nodes of one name over parts of one class are equal, so they may be merged
  pub alike : (t : Table) (class : ℕ → ℕ) (es : NodePairs) → Partway t class es → (i j : ℕ) → i < length t → j < length t
      → map_parts class (shape_at t i) ≡ map_parts class (shape_at t j) → Equal (equations t es) (build_at t i) (build_at t j)
  -- to merge the classes of equal nodes
  pub merge : (t : Table) (class to : ℕ → ℕ) (es : NodePairs) → Partway t class es → (a b : ℕ) → a < length t → b < length t
      → class a < class b → Equal (equations t es) (build_at t a) (build_at t b) → Merged (length t) class to a b → Merge t class to es a b

-- as Settled, of the classes that are done
pub record Underway {C : Type 0} (rule : Rule C) (t : Table) (class : ℕ → ℕ) (done : ℕ → Bool)
    (choice rank : ℕ → ℕ) (cost : ℕ → C) (now : ℕ) : Type 0 where
  pub node : (i : ℕ) → i < length t → done (class i) ≡ true → choice (class i) < length t
  pub own : (i : ℕ) → i < length t → done (class i) ≡ true → class (choice (class i)) ≡ class i
  pub early : (i : ℕ) → i < length t → done (class i) ≡ true → rank (class i) < now
  pub earlier : (i : ℕ) → i < length t → done (class i) ≡ true
      → EachPart (λ p. (done (class p) ≡ true) × (rank (class p) < rank (class i))) (shape_at t (choice (class i)))
  pub adds : (i : ℕ) → i < length t → done (class i) ≡ true
      → cost (class i) ≡ cost_over rule (λ p. cost (class p)) (shape_at t (choice (class i)))
  pub ordered : (i j : ℕ) → i < length t → j < length t → done (class i) ≡ true → done (class j) ≡ true → rank (class i) ≤ rank (class j)
      → AtMost rule (cost (class i)) (cost (class j))
  pub cheapest : (i : ℕ) → i < length t → done (class i) ≡ true
      → EachPart (λ p. (done (class p) ≡ true) × (rank (class p) < rank (class i))) (shape_at t i)
      → AtMost rule (cost (class i)) (cost_over rule (λ p. cost (class p)) (shape_at t i))
  -- what can be chosen next costs no less than what was chosen
  pub front : (i j : ℕ) → i < length t → j < length t → done (class i) ≡ true → done (class j) ≡ false
      → EachPart (λ p. done (class p) ≡ true) (shape_at t j)
      → AtMost rule (cost (class i)) (cost_over rule (λ p. cost (class p)) (shape_at t j))

pub record Next {C : Type 0} (rule : Rule C) (t : Table) (class : ℕ → ℕ) (done : ℕ → Bool) (cost : ℕ → C) (m : ℕ) : Type 0 where
  pub here : m < length t
  pub open_yet : done (class m) ≡ false
  pub ready : EachPart (λ p. done (class p) ≡ true) (shape_at t m)
  pub best : (j : ℕ) → j < length t → done (class j) ≡ false → EachPart (λ p. done (class p) ≡ true) (shape_at t j)
      → AtMost rule (cost_over rule (λ p. cost (class p)) (shape_at t m)) (cost_over rule (λ p. cost (class p)) (shape_at t j))

-- `new` is `old` but for the value v at k
pub record SetAt {A : Type 0} (old new : ℕ → A) (k : ℕ) (v : A) : Type 0 where
  pub here : new k ≡ v
  pub other : (i : ℕ) → i ≢ k → new i ≡ old i

abbrev pub falses : (ℕ → Bool) → ℕ → ℕ
falses f zero = 0
falses f (suc n) = cond (f n) (falses f n) (suc (falses f n))

pub record Settling (C : Type 0) : Type 0 where
  -- at the start no class is done
  pub start : (rule : Rule C) (t : Table) (class : ℕ → ℕ) (choice rank : ℕ → ℕ) (cost : ℕ → C)
      → Underway rule t class (λ k. false) choice rank cost 0
  -- while a class is not done, some node can be chosen
  pub goes_on : (t : Table) (class : ℕ → ℕ) (done : ℕ → Bool) → PartsFirst t → (i : ℕ) → i < length t → done (class i) ≡ false
      → (m : ℕ) × (m < length t) × (done (class m) ≡ false) × EachPart (λ p. done (class p) ≡ true) (shape_at t m)
  -- to choose the cheapest node that can be chosen
  pub step : (rule : Rule C) → RuleLaws rule → (t : Table) (class : ℕ → ℕ) (done : ℕ → Bool) (choice rank : ℕ → ℕ) (cost : ℕ → C) (now : ℕ)
      → PartsFirst t → Underway rule t class done choice rank cost now → (m : ℕ) → Next rule t class done cost m
      → (done' : ℕ → Bool) (choice' rank' : ℕ → ℕ) (cost' : ℕ → C)
      → SetAt done done' (class m) true → SetAt choice choice' (class m) m → SetAt rank rank' (class m) now
      → SetAt cost cost' (class m) (cost_over rule (λ p. cost (class p)) (shape_at t m))
      → Underway rule t class done' choice' rank' cost' (suc now)
  -- at the end every class is done
  pub finish : (rule : Rule C) (t : Table) (class : ℕ → ℕ) (done : ℕ → Bool) (choice rank : ℕ → ℕ) (cost : ℕ → C) (now : ℕ)
      → PartsFirst t → Underway rule t class done choice rank cost now → ((i : ℕ) → i < length t → done (class i) ≡ true)
      → Settled rule t class choice rank cost
