-- What a book holds, and what is true of every book. Cited by the relations of the calls and by every contract of a book.
--
-- | word         | meaning                                                                                        |
-- |--------------|------------------------------------------------------------------------------------------------|
-- | symbol       | the number of a name, counted from 0 as names arrive                                           |
-- | Node         | a symbol over none, one or two nodes, each by its number                                       |
-- | Parts        | a property holds of each part of a node                                                        |
-- | State        | names, nodes, equations, classes, choices, whether a pricing is in force, and how many rows    |
-- | build        | the build that a node stands for, by names                                                     |
-- | node_build   | the build that a symbol over nodes would stand for                                             |
-- | equations_in | the equations of a book, between builds                                                        |
-- | Alike        | two nodes' builds are equal by the book's equations                                            |
-- | Lowest       | the lowest number of a node whose build is equal to that of another node                       |
-- | Chosen       | the choices are those of the stages, by a rule that says which builds are cheaper              |
-- | Book         | what is true of every book                                                                     |
-- | fresh        | a book as it is made                                                                           |
-- | with-..      | a state with a name, a node or an equation more, or with a pricing in force                    |
-- | symbol_of    | the symbol of a name, or else the number of names                                              |
use Rattle.std.specs.Prelude.{◌≡◌, ℕ, suc, ◌<◌, ◌≤◌, Bool, true, false, cond, List, [], ◌∷◌, ◌++◌, map, length, ◌==◌, slice_index, slice_index_or}
use mathlib.Core.List.{Memᴰ}
use Rattle.theory.specs.Names.{Name, IsName}
use Rattle.theory.specs.Builds.{Build}
use Rattle.theory.specs.Equality.{Equation, Equal}
use Rattle.theory.specs.Tables.{Shape, atom, unary, binary, Table, NodePairs, build_over, build_at, equations}
use Rattle.theory.specs.Costs.{Cheaper, by_builds}
use Rattle.theory.specs.Stages.{Stages, choice_in}

-- a symbol alone, over one node, or over two nodes
pub data Node : Type 0 where
  leaf : ℕ → Node
  over : ℕ → ℕ → Node
  pair : ℕ → ℕ → ℕ → Node

abbrev pub symbol : Node → ℕ
symbol (leaf k) = k
symbol (over k p) = k
symbol (pair k p q) = k

abbrev pub Parts : (ℕ → Type 0) → Node → Type 0
Parts P (leaf k) = Unit {0}
Parts P (over k p) = P p
Parts P (pair k p q) = P p × P q

-- the node with its symbol's name in the symbol's place
abbrev pub shape : List Name → Node → Shape
shape ns (leaf k) = atom (slice_index_or ns k [])
shape ns (over k p) = unary (slice_index_or ns k []) p
shape ns (pair k p q) = binary (slice_index_or ns k []) p q

pub record State : Type 0 where
  -- symbol 0's name first, node 0 first, equation 0 first
  pub names : List Name
  pub nodes : List Node
  pub equated : NodePairs
  -- for each node the number of its class
  pub classes : List ℕ
  -- for each node the choice of its class, while a pricing is in force
  pub choices : List ℕ
  pub priced : Bool
  -- how many names, nodes and equations there is room for, each
  pub room : ℕ

abbrev pub table : State → Table
table s = map (shape s.names) s.nodes

abbrev pub build : State → ℕ → Build
build s i = build_at (table s) i

abbrev pub node_build : State → Node → Build
node_build s x = build_over (build s) (shape s.names x)

abbrev pub equations_in : State → List Equation
equations_in s = equations (table s) s.equated

abbrev pub name_at : State → ℕ → Name
name_at s k = slice_index_or s.names k []

abbrev pub node_at : State → ℕ → Node
node_at s i = slice_index_or s.nodes i (leaf 0)

abbrev pub class : State → ℕ → ℕ
class s i = slice_index s.classes i

abbrev pub choice : State → ℕ → ℕ
choice s i = slice_index s.choices i

abbrev pub IsSymbol : State → ℕ → Type 0
IsSymbol s k = k < length s.names

abbrev pub IsNode : State → ℕ → Type 0
IsNode s i = i < length s.nodes

abbrev pub Alike : State → ℕ → ℕ → Type 0
Alike s j i = Equal (equations_in s) (build s j) (build s i)

-- k is the lowest number of a node whose build is equal to node i's
pub record Lowest (s : State) (i k : ℕ) : Type 0 where
  pub here : IsNode s k
  pub alike : Alike s k i
  pub low : (j : ℕ) → IsNode s j → Alike s j i → k ≤ j

-- each node has the choice of its class
pub record Chosen (s : State) (cheaper : Cheaper) (cs : List ℕ) : Type 0 where
  -- the nodes that settled their classes, the last first
  pub settlers : List ℕ
  pub stages : Stages (by_builds cheaper) (table s) (class s) settlers
  pub long : length cs ≡ length s.nodes
  pub choices : (i : ℕ) → IsNode s i → slice_index cs i ≡ choice_in (class s) settlers (class s i)

pub record Book (s : State) : Type 0 where
  -- a book has room for 1,024 of each at most, and holds no more than there is room for
  pub limit : s.room ≤ 1024
  pub names_fit : length s.names ≤ s.room
  pub nodes_fit : length s.nodes ≤ s.room
  pub equated_fit : length s.equated ≤ s.room
  -- every name is a lawful name, and no two symbols have the same
  pub formed : (k : ℕ) → IsSymbol s k → IsName (name_at s k)
  pub names_apart : (j k : ℕ) → IsSymbol s j → IsSymbol s k → name_at s j ≡ name_at s k → j ≡ k
  -- a node's symbol has a name, its parts stand before it, and no two nodes have the same build
  pub symbols : (i : ℕ) → IsNode s i → IsSymbol s (symbol (node_at s i))
  pub lower : (i : ℕ) → IsNode s i → Parts (λ p. p < i) (node_at s i)
  pub builds_apart : (i j : ℕ) → IsNode s i → IsNode s j → build s i ≡ build s j → i ≡ j
  -- an equation is between nodes
  pub between : (a b : ℕ) → Memᴰ (a, b) s.equated → IsNode s a × IsNode s b
  -- a node's class is the lowest node that is equal to it
  pub classed : length s.classes ≡ length s.nodes
  pub lowest : (i : ℕ) → IsNode s i → Lowest s i (class s i)
  -- each node has a choice while a pricing is in force, and none else
  pub unpriced : s.priced ≡ false → s.choices ≡ []
  pub chosen : s.priced ≡ true → length s.choices ≡ length s.nodes

abbrev pub fresh : ℕ → State
fresh room = record { names = []; nodes = []; equated = []; classes = []; choices = []; priced = false; room = room }

abbrev pub with_name : State → Name → State
with_name s bs =
    record {
      names = s.names ++ (bs ∷ []);
      nodes = s.nodes;
      equated = s.equated;
      classes = s.classes;
      choices = s.choices;
      priced = s.priced;
      room = s.room;
    }

-- with one more node, of class k: this ends a pricing in force
abbrev pub with_node : State → Node → ℕ → State
with_node s x k =
    record {
      names = s.names;
      nodes = s.nodes ++ (x ∷ []);
      equated = s.equated;
      classes = s.classes ++ (k ∷ []);
      choices = [];
      priced = false;
      room = s.room;
    }

-- with one more equation, and the classes ks: this ends a pricing in force
abbrev pub with_equation : State → ℕ → ℕ → List ℕ → State
with_equation s a b ks =
    record {
      names = s.names;
      nodes = s.nodes;
      equated = s.equated ++ ((a, b) ∷ []);
      classes = ks;
      choices = [];
      priced = false;
      room = s.room;
    }

-- with the choices cs: a pricing is in force
abbrev pub with_choices : State → List ℕ → State
with_choices s cs =
    record {
      names = s.names;
      nodes = s.nodes;
      equated = s.equated;
      classes = s.classes;
      choices = cs;
      priced = true;
      room = s.room;
    }

abbrev pub same_name : Name → Name → Bool
same_name [] [] = true
same_name [] (y ∷ ys) = false
same_name (x ∷ xs) [] = false
same_name (x ∷ xs) (y ∷ ys) = cond (x == y) (same_name xs ys) false

abbrev pub symbol_of : List Name → Name → ℕ
symbol_of [] x = 0
symbol_of (y ∷ ys) x = cond (same_name y x) 0 (suc (symbol_of ys x))
