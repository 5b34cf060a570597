-- Chains of nodes with parts of one class. Cited by the index from a class to the nodes above it.
--
-- | word      | meaning                                                                                               |
-- |-----------|-------------------------------------------------------------------------------------------------------|
-- | key       | the class of a node's part on a side, if it has one there; an only part stands to the left            |
-- | link_at   | the node that a list has at a place, if any                                                           |
-- | Chained   | `first` leads to one of the first n nodes, and `next` to lower nodes                                  |
-- | Linked    | from `first` at a class, `next` leads through all nodes below n with that key, from the last down     |
use Rattle.std.specs.Prelude.{◌≡◌, ℕ, ◌<◌, ◌≤◌, ◌≢◌, List, Option, Some, None, slice_index_or}
use Rattle.theory.specs.Tables.{Shape, atom, unary, binary, shape_at}
use Rattle.book.specs.declared.row.Row.{Row}
use Rattle.book.specs.Rows.{class}
use Rattle.pricing.specs.declared.chain.Side.{Side}
use Rattle.pricing.specs.declared.chain.Side.TheVariants.{Left, Right}
use Rattle.pricing.specs.Nodes.{table, one_more}

abbrev pub key_by : Side → (ℕ → ℕ) → Shape → Option ℕ
key_by side f (atom x) = None
key_by Left f (unary x p) = Some (f p)
key_by Right f (unary x p) = None
key_by Left f (binary x p q) = Some (f p)
key_by Right f (binary x p q) = Some (f q)

abbrev pub key : Side → List Row → ℕ → Option ℕ
key side xs i = key_by side (class xs) (shape_at (table xs) i)

abbrev pub link_at : List (Option ℕ) → ℕ → Option ℕ
link_at xs k = slice_index_or xs k None

pub record Chained (n : ℕ) (first next : List (Option ℕ)) : Type 0 where
  pub first_in : (k : ℕ) → one_more (link_at first k) ≤ n
  pub next_in : (i : ℕ) → i < n → one_more (link_at next i) ≤ i

pub record Linked (n : ℕ) (key : ℕ → Option ℕ) (first next : List (Option ℕ)) : Type 0 where
  pub chained : Chained n first next
  -- the last node with a key
  pub own : (k j : ℕ) → link_at first k ≡ Some j → key j ≡ Some k
  pub last : (k i : ℕ) → i < n → one_more (link_at first k) ≤ i → key i ≢ Some k
  -- the last one before with the same key
  pub same : (i j k : ℕ) → i < n → key i ≡ Some k → link_at next i ≡ Some j → key j ≡ Some k
  pub between : (i j k : ℕ) → i < n → key i ≡ Some k → one_more (link_at next i) ≤ j → j < i → key j ≢ Some k
