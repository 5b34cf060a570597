-- Marking the classes that are reached from a node's class, in bytes: one that is not zero is a mark. Cited by the contracts of marking.
--
-- | word         | meaning                                                                              |
-- |--------------|--------------------------------------------------------------------------------------|
-- | IsMarked     | the class is marked                                                                  |
-- | Covered      | the classes of a node's parts are marked                                             |
-- | Closed       | of the nodes below n, each whose class is marked is covered                          |
-- | Misses       | the class of a part of a node, which is not marked                                   |
-- | UnmarkedAt   | such a class of the part at a place, or else there is none, or its class is marked   |
-- | UnmarkedPart | such a class of one node, or else the node is covered                                |
-- | Missed       | such a class of a node whose own is marked                                           |
-- | UnmarkedFrom | such a class by one node, or else the node is covered if its class is marked         |
-- | Unmarked     | a missed class, or else every node whose class is marked is covered                  |
-- | OnlyReached  | every class that is marked is reached                                                |
-- | Marked       | the classes that are marked are those that are reached                               |
-- | zeros        | how many of the bytes are no mark                                                    |
use Rattle.std.specs.Prelude.{◌≡◌, ℕ, ◌<◌, List, length, Some, None, Option, nat_lt, slice_index, slice_index_or}
use Rattle.theory.specs.Steps.{falses}
use Rattle.theory.specs.Books.{State, IsNode, node_at, class}
use Rattle.theory.specs.Productions.{Part, Reached}
use Rattle.book.specs.declared.row.Row.{Row}
use Rattle.book.specs.Rows.{row, class as class_in}
use Rattle.listing.specs.Nodes.{state_in, part_at}

abbrev pub IsMarked : List ℕ → ℕ → Type 0
IsMarked ms k = 0 < slice_index ms k

abbrev pub Covered : State → List ℕ → ℕ → Type 0
Covered s ms j = (p : ℕ) → Part p (node_at s j) → IsMarked ms (class s p)

abbrev pub Closed : State → List ℕ → ℕ → Type 0
Closed s ms n = (j : ℕ) → j < n → IsMarked ms (class s j) → Covered s ms j

-- k is the class of a part of node j
pub record Misses (s : State) (ms : List ℕ) (j k : ℕ) : Type 0 where
  pub part : ℕ
  pub is_part : Part part (node_at s j)
  pub of_part : k ≡ class s part
  pub here : IsNode s k
  pub unmarked : slice_index_or ms k 0 ≡ 0

-- the part at place i of node j
abbrev pub UnmarkedAt : List Row → List ℕ → ℕ → ℕ → Option ℕ → Type 0
UnmarkedAt xs ms j i (Some k) = Misses (state_in xs) ms j k
UnmarkedAt xs ms j i None = i < (row xs j).node.parts → IsMarked ms (class_in xs (part_at (row xs j).node i))

abbrev pub UnmarkedPart : State → List ℕ → ℕ → Option ℕ → Type 0
UnmarkedPart s ms j (Some k) = Misses s ms j k
UnmarkedPart s ms j None = Covered s ms j

-- by the node that misses k
pub record Missed (s : State) (ms : List ℕ) (k : ℕ) : Type 0 where
  pub node : ℕ
  pub is_node : IsNode s node
  pub marked : IsMarked ms (class s node)
  pub misses : Misses s ms node k

abbrev pub UnmarkedFrom : State → List ℕ → ℕ → Option ℕ → Type 0
UnmarkedFrom s ms j (Some k) = Missed s ms k
UnmarkedFrom s ms j None = IsMarked ms (class s j) → Covered s ms j

abbrev pub Unmarked : State → List ℕ → Option ℕ → Type 0
Unmarked s ms (Some k) = Missed s ms k
Unmarked s ms None = Closed s ms (length s.nodes)

abbrev pub OnlyReached : State → ℕ → List ℕ → Type 0
OnlyReached s n ms = (k : ℕ) → IsMarked ms k → Reached s n k

pub record Marked (s : State) (n : ℕ) (ms : List ℕ) : Type 0 where
  pub sound : OnlyReached s n ms
  pub complete : (k : ℕ) → Reached s n k → IsMarked ms k

abbrev pub zeros : List ℕ → ℕ
zeros ms = falses (λ k. nat_lt 0 (slice_index ms k)) (length ms)
