-- How a book lies in its rows, to the last byte: which state rows hold, and which row each state has at each place.
-- Every promise of a call on a book is made through this page.
--
-- | word      | meaning                                                                                           |
-- |-----------|---------------------------------------------------------------------------------------------------|
-- | Contents  | the rows lent, how many names, nodes and equations they hold, and whether a pricing is in force   |
-- | room      | how many of the rows a book may use: 1,024 at most                                                |
-- | state_of  | the state that contents hold                                                                      |
-- | laid_row  | the row that a state has at a place; what is not used there is zero                               |
-- | Laid      | each row that the book may use is the row of the book's state                                     |
-- | Relaid    | a call leaves as many rows, those of the state after, and the rows past the room as they were     |
-- | Remade    | the same of a book that is made                                                                   |
-- | Pins      | the rows before and the state after leave no byte of the rows after open                           |
use Rattle.std.specs.Prelude.{◌≡◌, ℕ, zero, suc, ◌-◌, ◌<◌, ◌≤◌, min, Bool, cond, List, [], ◌++◌, map, length, take, replicate, slice_index, slice_index_or}
use Rattle.theory.specs.Names.{Name}
use Rattle.theory.specs.Books.{Node as Entry, leaf, over, pair, State, name_at, node_at, class}
use Rattle.book.specs.declared.row.Row.{Row}
use Rattle.book.specs.declared.row.Node.{Node}
use Rattle.book.specs.declared.row.Equation.{Equation}
use Rattle.book.specs.Rows.{row, trimmed}

pub record Contents : Type 0 where
  pub rows : List Row
  pub names : ℕ
  pub nodes : ℕ
  pub equations : ℕ
  pub priced : Bool

abbrev pub room : Contents → ℕ
room s = min (length s.rows) 1024

-- a symbol over as many parts as the row says
abbrev pub entry : ℕ → ℕ → ℕ → ℕ → Entry
entry x zero l r = leaf x
entry x (suc zero) l r = over x l
entry x (suc (suc k)) l r = pair x l r

abbrev pub entry_of : Node → Entry
entry_of x = entry x.symbol x.parts x.left x.right

-- a name is its bytes up to the first zero; a row has one more than the choice
abbrev pub state_of : Contents → State
state_of s =
    record {
      names = map (λ (r : Row). trimmed r.name) (take s.names s.rows);
      nodes = map (λ (r : Row). entry_of r.node) (take s.nodes s.rows);
      equated = map (λ (r : Row). (r.equation.left, r.equation.right)) (take s.equations s.rows);
      classes = map (λ (r : Row). r.node.class) (take s.nodes s.rows);
      choices = cond s.priced (map (λ (r : Row). r.node.choice - 1) (take s.nodes s.rows)) [];
      priced = s.priced;
      room = room s;
    }

-- twelve bytes: those of the name, and then zeros
abbrev pub laid_name : Name → List ℕ
laid_name bs = take 12 (bs ++ replicate 12 0)

-- a node's symbol, its number of parts, its parts (a missing one is 0), its class, and what is kept of its choice
abbrev pub laid_node : Entry → ℕ → ℕ → Node
laid_node (leaf x) k c = record { symbol = x; parts = 0; left = 0; right = 0; class = k; choice = c }
laid_node (over x p) k c = record { symbol = x; parts = 1; left = p; right = 0; class = k; choice = c }
laid_node (pair x p q) k c = record { symbol = x; parts = 2; left = p; right = q; class = k; choice = c }

abbrev pub laid_equation : ℕ × ℕ → Equation
laid_equation e = record { left = e.0; right = e.1 }

-- past the names there is no byte, past the nodes symbol 0 of class 0 without parts, past the choices 0, past the equations 0 and 0
abbrev pub laid_row : State → ℕ → Row
laid_row s i =
    record {
      name = laid_name (name_at s i);
      node = laid_node (node_at s i) (class s i) (slice_index (map suc s.choices) i);
      equation = laid_equation (slice_index_or s.equated i (0, 0));
    }

abbrev pub Laid : Contents → Type 0
Laid s = (i : ℕ) → i < room s → row s.rows i ≡ laid_row (state_of s) i

pub record Relaid (s t : Contents) : Type 0 where
  pub long : length t.rows ≡ length s.rows
  pub laid : Laid t
  pub past : (i : ℕ) → room s ≤ i → row t.rows i ≡ row s.rows i

-- a book made over the rows xs: as many rows, those of its state, and the rows past the room as they were
pub record Remade (xs : List Row) (t : Contents) : Type 0 where
  pub long : length t.rows ≡ length xs
  pub laid : Laid t
  pub past : (i : ℕ) → min (length xs) 1024 ≤ i → row t.rows i ≡ row xs i

-- the rows before a call and the state after it leave no byte of the rows after it open
abbrev pub Pins : Type 0
Pins = (s t u : Contents) → Relaid s t → Relaid s u → state_of t ≡ state_of u → t.rows ≡ u.rows
