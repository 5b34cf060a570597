-- What the closing of the classes keeps and reaches. Cited by the contracts of `closing`.
--
-- | word      | meaning                                                                                       |
-- |-----------|-----------------------------------------------------------------------------------------------|
-- | key       | a node's symbol, number of parts and the classes of its parts                                 |
-- | Joined    | the classes of two nodes are made one, the lower, and it is marked                            |
-- | Clean     | no part is of a marked class                                                                  |
-- | Waits     | congruent nodes are of one class, or have a part of a marked class                            |
-- | Owes      | the same, but for the nodes above one class that are not compared yet                         |
-- | Level     | congruent nodes are of one class                                                              |
-- | weight    | what falls with each step: twice the classes, and the marks                                   |
-- | Reclassed | only classes are changed                                                                      |
-- | Turned    | some classes of equal nodes were made one                                                     |
-- | Accepted  | the classes are closed under one equation more                                                |
use Rattle.std.specs.Prelude.{◌≡◌, ℕ, ◌+◌, ◌<◌, ◌≤◌, Bool, true, false, cond, ◌≢◌, ◌⊎◌, List, [], ◌∷◌, length, slice_index_or, slice_set}
use mathlib.Core.List.{Memᴰ}
use Rattle.theory.specs.Tables.{Shape, NodePairs, EachPart}
use Rattle.theory.specs.Steps.{Partway, class_count}
use Rattle.book.specs.declared.row.Row.{Row}
use Rattle.book.specs.declared.row.Signature.{Signature}
use Rattle.book.specs.Rows.{row, class, shape, sign, table, bare, with_class, Relabelled, Based}

abbrev pub key : List Row → ℕ → Signature
key rows i =
    record {
      symbol = (row rows i).node.symbol;
      parts = (row rows i).node.parts;
      left = class rows (row rows i).node.left;
      right = class rows (row rows i).node.right;
    }

-- the classes of i and j are one, the lower, and it is marked
pub record Joined (xs ys : List Row) (ds es : List Bool) (n i j : ℕ) : Type 0 where
  pub same : class xs i ≡ class xs j → (ys ≡ xs) × (es ≡ ds)
  pub down : class xs i < class xs j → Relabelled xs ys n (class xs i) (class xs j) × (es ≡ slice_set ds (class xs i) true)
  pub up : class xs j < class xs i → Relabelled xs ys n (class xs j) (class xs i) × (es ≡ slice_set ds (class xs j) true)

-- none of the parts is of a marked class
abbrev pub Clean : List Row → List Bool → Shape → Type 0
Clean rows ds x = EachPart (λ p. slice_index_or ds (class rows p) false ≡ false) x

-- none of the parts is of class d
abbrev pub Clear : List Row → ℕ → Shape → Type 0
Clear rows d x = EachPart (λ p. class rows p ≢ d) x

-- congruent nodes are of one class, or have a part of a marked class
abbrev pub Waits : List Row → ℕ → List Bool → Type 0
Waits rows n ds = (i j : ℕ) → i < n → j < n → sign rows i ≡ sign rows j → Clean rows ds (shape rows i) → class rows i ≡ class rows j

-- the same but for the nodes with a part of class d that are not compared yet: those before a are, and a is with those before b
abbrev pub Owes : List Row → ℕ → List Bool → ℕ → ℕ → ℕ → Type 0
Owes rows n ds d a b =
    (i j : ℕ) → i < n → j < n → sign rows i ≡ sign rows j → Clean rows ds (shape rows i)
    → Clear rows d (shape rows i) ⊎ ((i < a) ⊎ ((i ≡ a) × (j < b))) → class rows i ≡ class rows j

-- congruent nodes are of one class
abbrev pub Level : List Row → ℕ → Type 0
Level rows n = (i j : ℕ) → i < n → j < n → sign rows i ≡ sign rows j → class rows i ≡ class rows j

abbrev pub marks : List Bool → ℕ
marks [] = 0
marks (b ∷ bs) = cond b 1 0 + marks bs

-- what falls: a merge takes a class and marks one at most
abbrev pub weight : ℕ → List Row → List Bool → ℕ
weight n rows ds = class_count n (class rows) + (class_count n (class rows) + marks ds)

-- only classes of the nodes below n are changed
pub record Reclassed (n : ℕ) (xs ys : List Row) : Type 0 where
  pub long : length ys ≡ length xs
  pub within : (i : ℕ) → i < n → row ys i ≡ with_class (row xs i) (class ys i)
  pub past : (i : ℕ) → n ≤ i → row ys i ≡ row xs i

-- some classes of equal nodes were made one
pub record Turned (n : ℕ) (xs ys : List Row) (ds es : List Bool) : Type 0 where
  pub only : Reclassed n xs ys
  pub based : Based ys n
  pub long : length es ≡ length ds
  pub coarser : (i j : ℕ) → i < n → j < n → class xs i ≡ class xs j → class ys i ≡ class ys j
  pub lighter : weight n ys es ≤ weight n xs ds
  pub sound : (ps : NodePairs) → Partway (table bare xs n) (class xs) ps → Partway (table bare xs n) (class ys) ps

-- the classes are closed under the equation of a and b
pub record Accepted (xs ys : List Row) (n a b : ℕ) : Type 0 where
  pub only : Reclassed n xs ys
  pub based : Based ys n
  pub level : Level ys n
  pub coarser : (i j : ℕ) → i < n → j < n → class xs i ≡ class xs j → class ys i ≡ class ys j
  pub joins : class ys a ≡ class ys b
  pub sound : (ps : NodePairs) → Memᴰ (a, b) ps → Partway (table bare xs n) (class xs) ps → Partway (table bare xs n) (class ys) ps
