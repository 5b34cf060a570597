-- What the rows of a book say: their nodes as a table of shapes, their classes, their equations, and what the stores into them do.
-- Cited by the contracts of the functions on rows.
--
-- | word       | meaning                                                                                     |
-- |------------|---------------------------------------------------------------------------------------------|
-- | row        | the row at a place                                                                          |
-- | name_of    | the name of a symbol                                                                        |
-- | bare       | a symbol by its number, in place of its name                                                |
-- | table      | the shapes of the nodes, by names or by bare symbols                                        |
-- | class      | the class of a node                                                                         |
-- | pairs_in   | the equations, by their nodes                                                               |
-- | shape      | a node as a shape over its bare symbol                                                      |
-- | sign       | the same with the classes of its parts: congruent nodes have one                            |
-- | Tidy       | every node has two parts at most, all before it, and a missing part is 0                    |
-- | Based      | a class goes by the number of one of its nodes, and none of them is lower                   |
-- | Unchosen   | the choices are set to 0                                                                    |
-- | Relabelled | one class is put into another                                                               |
use Rattle.std.specs.Prelude.{◌≡◌, ℕ, zero, suc, ◌<◌, ◌≤◌, cond, List, [], ◌∷◌, map, length, take, ◌==◌, slice_index_or, slice_set}
use Rattle.theory.specs.Names.{Name}
use Rattle.theory.specs.Tables.{Shape, atom, unary, binary, Table, NodePairs, map_parts}
use Rattle.book.specs.declared.row.Row.{Row}
use Rattle.book.specs.declared.row.Node.{Node}
use Rattle.book.specs.declared.row.Equation.{Equation}

abbrev pub no_node : Node
no_node = record { symbol = 0; parts = 0; left = 0; right = 0; class = 0; choice = 0 }

abbrev pub no_equation : Equation
no_equation = record { left = 0; right = 0 }

-- what is read past the end
abbrev pub absent : Row
absent = record { name = []; node = no_node; equation = no_equation }

abbrev pub row : List Row → ℕ → Row
row rows i = slice_index_or rows i absent

-- a node's shape: its name and as many of its parts as it has
abbrev pub shaped : (ℕ → Name) → ℕ → ℕ → ℕ → ℕ → Shape
shaped nm s zero l r = atom (nm s)
shaped nm s (suc zero) l r = unary (nm s) l
shaped nm s (suc (suc k)) l r = binary (nm s) l r

abbrev pub shape_of : (ℕ → Name) → Node → Shape
shape_of nm x = shaped nm x.symbol x.parts x.left x.right

-- a symbol by its number alone
abbrev pub bare : ℕ → Name
bare s = s ∷ []

-- bytes up to the first zero
abbrev pub trimmed : List ℕ → Name
trimmed [] = []
trimmed (zero ∷ bs) = []
trimmed (suc b ∷ bs) = suc b ∷ trimmed bs

-- the name of a symbol
abbrev pub name_of : List Row → ℕ → Name
name_of rows s = trimmed (row rows s).name

abbrev pub table : (ℕ → Name) → List Row → ℕ → Table
table nm rows n = map (λ (r : Row). shape_of nm r.node) (take n rows)

abbrev pub class : List Row → ℕ → ℕ
class rows i = (row rows i).node.class

abbrev pub pairs_in : List Row → ℕ → NodePairs
pairs_in rows n = map (λ (r : Row). (r.equation.left, r.equation.right)) (take n rows)

-- r with the class c
abbrev pub with_class : Row → ℕ → Row
with_class r c =
    record {
      name = r.name;
      node = record {
        symbol = r.node.symbol;
        parts = r.node.parts;
        left = r.node.left;
        right = r.node.right;
        class = c;
        choice = r.node.choice;
      };
      equation = r.equation;
    }

-- r with the equation of a and b
abbrev pub with_equation : Row → ℕ → ℕ → Row
with_equation r a b = record { name = r.name; node = r.node; equation = record { left = a; right = b } }

-- the equation of a and b stored in the row k
abbrev pub stored : List Row → ℕ → ℕ → ℕ → List Row
stored rows k a b = slice_set rows k (with_equation (row rows k) a b)

-- r with the choice c
abbrev pub with_choice : Row → ℕ → Row
with_choice r c =
    record {
      name = r.name;
      node = record {
        symbol = r.node.symbol;
        parts = r.node.parts;
        left = r.node.left;
        right = r.node.right;
        class = r.node.class;
        choice = c;
      };
      equation = r.equation;
    }

-- the nodes below n have no choice; nothing else is changed
pub record Unchosen (xs ys : List Row) (n : ℕ) : Type 0 where
  pub long : length ys ≡ length xs
  pub within : (i : ℕ) → i < n → row ys i ≡ with_choice (row xs i) 0
  pub past : (i : ℕ) → n ≤ i → row ys i ≡ row xs i

-- where the class c goes when `gone` goes into `keep`
abbrev pub moved : ℕ → ℕ → ℕ → ℕ
moved keep gone c = cond (c == gone) keep c

-- the nodes below n of class `gone` are now of class `keep`; nothing else is changed
pub record Relabelled (xs ys : List Row) (n keep gone : ℕ) : Type 0 where
  pub long : length ys ≡ length xs
  pub within : (i : ℕ) → i < n → row ys i ≡ with_class (row xs i) (moved keep gone (class xs i))
  pub past : (i : ℕ) → n ≤ i → row ys i ≡ row xs i

-- the node i, as a shape over symbols
abbrev pub shape : List Row → ℕ → Shape
shape rows i = shape_of bare (row rows i).node

-- a node with its parts' classes in place of its parts
abbrev pub sign : List Row → ℕ → Shape
sign rows i = map_parts (class rows) (shape rows i)

-- a node has at most two parts, all before it, and a missing part is 0
abbrev pub TidyNode : ℕ → Node → Type 0
TidyNode i x =
    (x.parts ≤ 2)
    × (0 < x.parts → x.left < i)
    × (1 < x.parts → x.right < i)
    × (x.parts < 1 → x.left ≡ 0)
    × (x.parts < 2 → x.right ≡ 0)

abbrev pub Tidy : List Row → ℕ → Type 0
Tidy rows n = (i : ℕ) → i < n → TidyNode i (row rows i).node

-- a class goes by one of its nodes, and none of them is lower
abbrev pub Based : List Row → ℕ → Type 0
Based rows n = (i : ℕ) → i < n → (class rows i ≤ i) × (class rows (class rows i) ≡ class rows i)
