-- Tables of nodes: the build that each node stands for, classes that are closed under equality, and the grammar of the classes.
-- Cited by every contract that speaks of nodes and of their classes.
--
-- | word       | meaning                                                                                          |
-- |------------|--------------------------------------------------------------------------------------------------|
-- | Shape      | what a node is: its name and the numbers of the nodes that are its parts                          |
-- | Table      | the shapes of the nodes, node 0 first                                                            |
-- | shape_at   | the shape of a node                                                                              |
-- | EachPart   | a property holds of each part of a shape                                                         |
-- | PartsFirst | each node's parts stand before it                                                                |
-- | map_parts  | a shape with each part's number replaced                                                         |
-- | build_over | the build of a shape, from a build for each part                                                 |
-- | build_at   | the build that a node stands for                                                                 |
-- | NodePairs  | equations between nodes, by their numbers                                                        |
-- | equations  | the same equations, between the builds of the nodes                                              |
-- | class      | for each node the number of its class, which is the number of the first node in it               |
-- | Closed     | the classes are those of deducible equality: congruent, with every equation in them, and sound   |
-- | Generated  | the grammar with a production for each node generates the build at that class                    |
-- | Matches    | a production matches a build: one name, as many parts, and each part equal to the node's part    |
use Rattle.std.specs.Prelude.{◌≡◌, ℕ, ◌<◌, ◌≤◌, List, [], ◌∷◌, ◌++◌, map, length, get_or, slice_index_or}
use mathlib.Core.List.{Memᴰ}
use Rattle.theory.specs.Names.{Name}
use Rattle.theory.specs.Builds.{Build, alone, one, two}
use Rattle.theory.specs.Equality.{Equation, Equal}

-- a name alone, over one node, or over two nodes
pub data Shape : Type 0 where
  atom : Name → Shape
  unary : Name → ℕ → Shape
  binary : Name → ℕ → ℕ → Shape

abbrev pub Table : Type 0
Table = List Shape

abbrev pub shape_at : Table → ℕ → Shape
shape_at t i = slice_index_or t i (atom [])

abbrev pub EachPart : (ℕ → Type 0) → Shape → Type 0
EachPart P (atom x) = Unit {0}
EachPart P (unary x p) = P p
EachPart P (binary x p q) = P p × P q

abbrev pub PartsFirst : Table → Type 0
PartsFirst t = (i : ℕ) → i < length t → EachPart (λ p. p < i) (shape_at t i)

abbrev pub map_parts : (ℕ → ℕ) → Shape → Shape
map_parts f (atom x) = atom x
map_parts f (unary x p) = unary x (f p)
map_parts f (binary x p q) = binary x (f p) (f q)

abbrev pub build_over : (ℕ → Build) → Shape → Build
build_over f (atom x) = alone x
build_over f (unary x p) = one x (f p)
build_over f (binary x p q) = two x (f p) (f q)

-- stands where no node is; it is no lawful build
abbrev pub no_build : Build
no_build = alone []

-- the builds of all nodes, where `before` has the builds of the nodes that stand before the table's
abbrev pub builds : Table → List Build → List Build
builds [] before = before
builds (x ∷ xs) before = builds xs (before ++ (build_over (λ p. get_or before p no_build) x ∷ []))

abbrev pub build_at : Table → ℕ → Build
build_at t i = slice_index_or (builds t []) i no_build

abbrev pub NodePairs : Type 0
NodePairs = List (ℕ × ℕ)

abbrev pub equations : Table → NodePairs → List Equation
equations t es = map (λ (e : ℕ × ℕ). (build_at t e.0, build_at t e.1)) es

pub record Closed (t : Table) (class : ℕ → ℕ) (es : NodePairs) : Type 0 where
  -- a node's parts stand before it
  pub lower : PartsFirst t
  -- a class goes by the number of its first node
  pub least : (i : ℕ) → i < length t → class i ≤ i
  pub fixed : (i : ℕ) → i < length t → class (class i) ≡ class i
  -- nodes of one name over parts of one class are of one class
  pub congruent : (i j : ℕ) → i < length t → j < length t → map_parts class (shape_at t i) ≡ map_parts class (shape_at t j) → class i ≡ class j
  -- both sides of an equation are nodes of one class
  pub joined : (i j : ℕ) → Memᴰ (i, j) es → (i < length t) × (j < length t) × (class i ≡ class j)
  -- nodes of one class are equal
  pub sound : (i j : ℕ) → i < length t → j < length t → class i ≡ class j → Equal (equations t es) (build_at t i) (build_at t j)
  -- no two nodes have one shape
  pub distinct : (i j : ℕ) → i < length t → j < length t → shape_at t i ≡ shape_at t j → i ≡ j

-- at class k: some node j of class k has the build's name and as many parts, and each part is generated at the class of j's part
abbrev pub Generated : Table → (ℕ → ℕ) → Build → ℕ → Type 0
Generated t class (alone x) k = (j : ℕ) × (j < length t) × (class j ≡ k) × (shape_at t j ≡ atom x)
Generated t class (one x u) k =
    (j : ℕ) × (p : ℕ) × (j < length t) × (class j ≡ k) × (shape_at t j ≡ unary x p) × Generated t class u (class p)
Generated t class (two x u v) k =
    (j : ℕ) × (p : ℕ) × (q : ℕ) × (j < length t) × (class j ≡ k) × (shape_at t j ≡ binary x p q)
    × Generated t class u (class p) × Generated t class v (class q)

-- one step of the grammar, with equality for the parts
abbrev pub Matches : List Equation → Table → Build → ℕ → Type 0
Matches es t (alone x) j = shape_at t j ≡ atom x
Matches es t (one x u) j = (p : ℕ) × (shape_at t j ≡ unary x p) × Equal es u (build_at t p)
Matches es t (two x u v) j =
    (p : ℕ) × (q : ℕ) × (shape_at t j ≡ binary x p q) × Equal es u (build_at t p) × Equal es v (build_at t q)
