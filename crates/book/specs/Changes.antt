-- What the calls on a book write: the rows and the counts after, from those before. Cited by the lemmas on each call.
--
-- | word     | meaning                                                                         |
-- |----------|---------------------------------------------------------------------------------|
-- | Reset    | other classes, and no choices, in the rows below n                              |
-- | Equated  | an equation is stored last, and a pricing in force ended                        |
-- | Added    | a node is stored last, and a pricing in force ended                             |
-- | Titled   | a name is stored last                                                           |
-- | Cleared  | the rows below n hold nothing, and the others are as they were                  |
-- | Repriced | the choices are stored, and the pricing comes into force                        |
use Rattle.std.specs.Prelude.{◌≡◌, ℕ, ◌+◌, ◌<◌, ◌≤◌, true, false, ◌≢◌, List, length, replicate, slice_index}
use Rattle.theory.specs.Names.{Name}
use Rattle.book.specs.declared.row.Row.{Row}
use Rattle.book.specs.declared.id.Parts.{Parts}
use Rattle.book.specs.Entering.{new_node, with_node}
use Rattle.book.specs.Rows.{row, class, stored, with_class, with_choice, no_node, no_equation}
use Rattle.book.specs.Layout.{Contents}
use Rattle.book.specs.Invariant.{Padded}

-- ys are xs with other classes, and with no choices, in the rows below n
pub record Reset (n : ℕ) (xs ys : List Row) : Type 0 where
  pub long : length ys ≡ length xs
  pub within : (i : ℕ) → i < n → row ys i ≡ with_choice (with_class (row xs i) (class ys i)) 0
  pub past : (i : ℕ) → n ≤ i → row ys i ≡ row xs i

-- the equation of a and b is stored, and the pricing ended
pub record Equated (s t : Contents) (a b : ℕ) : Type 0 where
  pub rows : Reset s.nodes (stored s.rows s.equations a b) t.rows
  pub names : t.names ≡ s.names
  pub nodes : t.nodes ≡ s.nodes
  pub equations : t.equations ≡ s.equations + 1
  pub priced : t.priced ≡ false

-- the node that is asked for is stored last, in the class c, and the pricing ended
pub record Added (s t : Contents) (symbol : ℕ) (parts : Parts) : Type 0 where
  pub long : length t.rows ≡ length s.rows
  pub within : (i : ℕ) → i < s.nodes → row t.rows i ≡ with_choice (row s.rows i) 0
  pub new : row t.rows s.nodes ≡ with_node (row s.rows s.nodes) (new_node symbol parts (class t.rows s.nodes))
  pub past : (i : ℕ) → s.nodes < i → row t.rows i ≡ row s.rows i
  pub names : t.names ≡ s.names
  pub nodes : t.nodes ≡ s.nodes + 1
  pub equations : t.equations ≡ s.equations
  pub priced : t.priced ≡ false

-- a row that holds nothing
abbrev pub blank_row : Row
blank_row = record { name = replicate 12 0; node = no_node; equation = no_equation }

-- the rows that a book may use hold nothing, and the others are as they were
pub record Cleared (xs ys : List Row) (n : ℕ) : Type 0 where
  pub long : length ys ≡ length xs
  pub within : (i : ℕ) → i < n → row ys i ≡ blank_row
  pub past : (i : ℕ) → n ≤ i → row ys i ≡ row xs i

-- r with the name b
abbrev pub with_name : Row → List ℕ → Row
with_name r b = record { name = b; node = r.node; equation = r.equation }

-- the name is stored last
pub record Titled (s t : Contents) (bs : Name) : Type 0 where
  pub long : length t.rows ≡ length s.rows
  pub new : row t.rows s.names ≡ with_name (row s.rows s.names) (row t.rows s.names).name
  pub name : Padded (row t.rows s.names).name bs
  pub other : (i : ℕ) → i ≢ s.names → row t.rows i ≡ row s.rows i
  pub names : t.names ≡ s.names + 1
  pub nodes : t.nodes ≡ s.nodes
  pub equations : t.equations ≡ s.equations
  pub priced : t.priced ≡ s.priced

-- the choices are stored, each as 1 more than the node, and the pricing comes into force
pub record Repriced (s t : Contents) (cs : List ℕ) : Type 0 where
  pub long : length t.rows ≡ length s.rows
  pub within : (i : ℕ) → i < s.nodes → row t.rows i ≡ with_choice (row s.rows i) (slice_index cs i + 1)
  pub past : (i : ℕ) → s.nodes ≤ i → row t.rows i ≡ row s.rows i
  pub names : t.names ≡ s.names
  pub nodes : t.nodes ≡ s.nodes
  pub equations : t.equations ≡ s.equations
  pub priced : t.priced ≡ true
