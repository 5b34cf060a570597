-- The rows of a book's nodes as pricing reads them: a list of rows here holds the nodes and nothing else. Names are bare symbols.
--
-- | word        | meaning                                                                            |
-- |-------------|------------------------------------------------------------------------------------|
-- | table       | the nodes as shapes over bare symbols                                              |
-- | shape_over  | a name over parts, as a shape                                                      |
-- | Below       | the parts stand before a node                                                      |
-- | bare_rule   | a price rule over bare symbols                                                     |
-- | chosen_at   | the choice of a class, if it is settled                                            |
-- | settled     | whether a class is settled: it has a choice                                        |
-- | ChoicesIn   | each choice is one of the first n nodes                                            |
-- | one_more    | 1 more than a node, or 0 for none, as a row keeps its choice                       |
-- | one_less    | what such a number is kept for                                                     |
-- | node_of     | the node that a link names, if any                                                 |
-- | links       | the nodes that links name                                                          |
-- | ready_by    | a test holds of each part of a shape                                               |
-- | ready_at    | the classes of a node's parts are settled                                          |
-- | ReadsAt     | the value stands at that place                                                     |
-- | CostIs      | the value is the cost of a node over the costs of its parts' classes               |
-- | cost_from   | that cost                                                                          |
use Rattle.std.specs.Prelude.{◌≡◌, ℕ, zero, suc, ◌+◌, ◌<◌, Bool, true, false, cond, List, [], map, get_or, Option, Some, None, is_some, slice_index, slice_index_or}
use Rattle.theory.specs.Names.{Name}
use Rattle.theory.specs.Tables.{Shape, atom, unary, binary, Table as Shapes, shape_at}
use Rattle.theory.specs.Costs.{Rule, cost_over}
use Rattle.price.specs.Rules.{rule_of}
use Rattle.book.specs.declared.row.Row.{Row}
use Rattle.book.specs.declared.id.Parts.{Parts}
use Rattle.book.specs.declared.id.Parts.TheVariants.{Zero, One, Two}
use Rattle.book.specs.Rows.{class, shape_of, bare}
use Rattle.pricing.specs.declared.link.Link.{Link}

abbrev pub table : List Row → Shapes
table xs = map (λ (r : Row). shape_of bare r.node) xs

abbrev pub shape_over : Name → Parts → Shape
shape_over x Zero = atom x
shape_over x (One p) = unary x p.0
shape_over x (Two p q) = binary x p.0 q.0

abbrev pub Below : ℕ → Parts → Type 0
Below i Zero = Unit {0}
Below i (One p) = p.0 < i
Below i (Two p q) = (p.0 < i) × (q.0 < i)

-- the symbol of a bare name
abbrev pub bare_number : Name → ℕ
bare_number x = slice_index x 0

abbrev pub bare_rule : {R C : Type 0} → (C → C → Bool) → (R → ℕ → C) → (R → ℕ → C → C) → (R → ℕ → C → C → C) → R → Rule C
bare_rule below alone one two r = rule_of below alone one two r bare_number

abbrev pub chosen_at : List (Option ℕ) → ℕ → Option ℕ
chosen_at ch k = slice_index_or ch k None

abbrev pub settled : List (Option ℕ) → ℕ → Bool
settled ch k = is_some (chosen_at ch k)

abbrev pub ChoicesIn : ℕ → List (Option ℕ) → Type 0
ChoicesIn n ch = (k j : ℕ) → chosen_at ch k ≡ Some j → j < n

abbrev pub one_more : Option ℕ → ℕ
one_more None = 0
one_more (Some j) = j + 1

abbrev pub one_less : ℕ → Option ℕ
one_less zero = None
one_less (suc j) = Some j

abbrev pub node_of : Link → Option ℕ
node_of l = one_less l.0

abbrev pub links : List Link → List (Option ℕ)
links xs = map node_of xs

abbrev pub ready_by : (ℕ → Bool) → Shape → Bool
ready_by f (atom x) = true
ready_by f (unary x p) = f p
ready_by f (binary x p q) = cond (f p) (f q) false

abbrev pub ready_at : List Row → List (Option ℕ) → ℕ → Bool
ready_at xs ch i = ready_by (λ p. settled ch (class xs p)) (shape_at (table xs) i)

abbrev pub ReadsAt : {C : Type 0} → List C → ℕ → C → Type 0
ReadsAt {C} cs k r = (d : C) → r ≡ slice_index_or cs k d

abbrev pub CostIs : {C : Type 0} → Rule C → List Row → List C → ℕ → C → Type 0
CostIs {C} rule xs cs i r = (d : C) → r ≡ cost_over rule (λ p. get_or cs (class xs p) d) (shape_at (table xs) i)

abbrev pub cost_from : {C : Type 0} → Rule C → List Row → List C → ℕ → C
cost_from rule xs cs i = cost_over rule (λ p. get_or cs (class xs p) (rule.cost_alone [])) (shape_at (table xs) i)
