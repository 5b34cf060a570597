-- What the algorithms of a book rely on and keep, in the words of the rows. What a reader has to believe of every book stands in
-- `Book` of the theory and in `Laid`; this is the same again, as the functions on rows need it.
--
-- | word     | meaning                                                            |
-- |----------|--------------------------------------------------------------------|
-- | Fits     | a count is within the rows that a book may use                     |
-- | Known    | the nodes' symbols have names                                      |
-- | Padded   | twelve bytes: those of a name, and then zeros                      |
-- | Spelt    | the rows hold lawful names                                         |
-- | Named    | no two symbols have the same name                                  |
-- | Distinct | no two nodes say the same                                          |
-- | Obeys    | both sides of each equation are nodes of one class                 |
-- | Follows  | nodes of one class are equal by the equations                      |
-- | Blank    | places past the counts hold zero                                   |
-- | Unpriced | with no pricing in force each choice is 0                          |
-- | Priced   | with a pricing in force no choice is 0                             |
-- | Sound    | all of these                                                       |
use Rattle.std.specs.Prelude.{◌≡◌, ℕ, ◌<◌, ◌≤◌, Bool, true, false, List, length, replicate, slice_index}
use Rattle.theory.specs.Names.{Name, IsName}
use Rattle.theory.specs.Equality.{Equal}
use Rattle.theory.specs.Tables.{build_at, equations}
use Rattle.book.specs.declared.row.Row.{Row}
use Rattle.book.specs.Rows.{row, class, shape, table, bare, pairs_in, name_of, no_node, no_equation, Tidy, Based}
use Rattle.book.specs.Closing.{Level}
use Rattle.book.specs.Layout.{Contents}

-- a count is within the rows that a book may use
abbrev pub Fits : List Row → ℕ → Type 0
Fits rows n = (n ≤ length rows) × (n ≤ 1024)

-- the nodes' symbols have names
abbrev pub Known : List Row → ℕ → ℕ → Type 0
Known rows names nodes = (i : ℕ) → i < nodes → (row rows i).node.symbol < names

-- twelve bytes: those of a name, and then zeros
pub record Padded (name : List ℕ) (bs : Name) : Type 0 where
  pub long : length name ≡ 12
  pub bytes : (k : ℕ) → slice_index name k ≡ slice_index bs k

-- the rows below n hold names
abbrev pub Spelt : List Row → ℕ → Type 0
Spelt rows n = (i : ℕ) → i < n → IsName (name_of rows i) × Padded (row rows i).name (name_of rows i)

-- no two symbols have the same name
abbrev pub Named : List Row → ℕ → Type 0
Named rows names = (i j : ℕ) → i < names → j < names → name_of rows i ≡ name_of rows j → i ≡ j

-- no two nodes say the same
abbrev pub Distinct : List Row → ℕ → Type 0
Distinct rows n = (i j : ℕ) → i < n → j < n → shape rows i ≡ shape rows j → i ≡ j

-- both sides of each equation are nodes of one class
abbrev pub Obeys : List Row → ℕ → ℕ → Type 0
Obeys rows nodes n =
    (k : ℕ) → k < n
    → ((row rows k).equation.left < nodes)
    × ((row rows k).equation.right < nodes)
    × (class rows (row rows k).equation.left ≡ class rows (row rows k).equation.right)

-- nodes of one class are equal by the equations
abbrev pub Follows : List Row → ℕ → ℕ → Type 0
Follows rows nodes n =
    (i j : ℕ) → i < nodes → j < nodes → class rows i ≡ class rows j
    → Equal (equations (table bare rows nodes) (pairs_in rows n)) (build_at (table bare rows nodes) i) (build_at (table bare rows nodes) j)

-- places past the counts hold zero
abbrev pub Blank : List Row → ℕ → ℕ → ℕ → Type 0
Blank rows names nodes n =
    (i : ℕ) → i < length rows → i < 1024
    → (names ≤ i → (row rows i).name ≡ replicate 12 0)
    × (nodes ≤ i → (row rows i).node ≡ no_node)
    × (n ≤ i → (row rows i).equation ≡ no_equation)

-- with no pricing in force each choice is 0
abbrev pub Unpriced : List Row → ℕ → Bool → Type 0
Unpriced rows nodes priced = priced ≡ false → (i : ℕ) → i < nodes → (row rows i).node.choice ≡ 0

-- with a pricing in force no choice is 0
abbrev pub Priced : List Row → ℕ → Bool → Type 0
Priced rows nodes priced = priced ≡ true → (i : ℕ) → i < nodes → 1 ≤ (row rows i).node.choice

-- all that the algorithms rely on
pub record Sound (s : Contents) : Type 0 where
  pub names_fit : Fits s.rows s.names
  pub nodes_fit : Fits s.rows s.nodes
  pub equations_fit : Fits s.rows s.equations
  pub tidy : Tidy s.rows s.nodes
  pub spelt : Spelt s.rows s.names
  pub named : Named s.rows s.names
  pub known : Known s.rows s.names s.nodes
  pub distinct : Distinct s.rows s.nodes
  pub based : Based s.rows s.nodes
  pub level : Level s.rows s.nodes
  pub obeys : Obeys s.rows s.nodes s.equations
  pub follows : Follows s.rows s.nodes s.equations
  pub blank : Blank s.rows s.names s.nodes s.equations
  pub unpriced : Unpriced s.rows s.nodes s.priced
  pub priced : Priced s.rows s.nodes s.priced
