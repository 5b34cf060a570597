-- The shapes of full books: by which word each goes, and which names, nodes and equations are asked for, in which order.
--
-- | word       | meaning                                                                            |
-- |------------|------------------------------------------------------------------------------------|
-- | word       | the word of a shape                                                                |
-- | nth_name   | the i-th name: n and three letters                                                 |
-- | in_towers  | the i-th node of two towers                                                        |
-- | in_chain   | the i-th node of a chain                                                           |
-- | in_tree    | the i-th node of a tree with so many names alone                                   |
-- | node_asked | the node that the i-th entering asks for                                           |
-- | pair_of    | two nodes of the code by their numbers                                             |
-- | pair_asked | the nodes that the i-th equating asks for, if the shape has equations              |
use Rattle.std.specs.Prelude.{ℕ, ◌+◌, ◌-◌, ◌*◌, ◌/◌, ◌%◌, List, [], ◌∷◌, Option, Some, None, if◌then◌else◌, nat_lt, codes}
use Rattle.theory.specs.Names.{Name}
use Rattle.theory.specs.Books.{Node, leaf, over, pair}
use Rattle.book.specs.declared.id.NodeId.{NodeId}
use Rattle.samples.specs.declared.shape.Shape.{Shape}
use Rattle.samples.specs.declared.shape.Shape.TheVariants.{Apart, Towers, Falling, Chain, Tree}

abbrev pub word : Shape → List ℕ
word Apart = codes "apart"
word Towers = codes "towers"
word Falling = codes "falling"
word Chain = codes "chain"
word Tree = codes "tree"

abbrev pub nth_name : ℕ → Name
nth_name i = 110 ∷ (97 + i / 676 % 26) ∷ (97 + i / 26 % 26) ∷ (97 + i % 26) ∷ []

-- two towers of one name, each node over the last but one
abbrev pub in_towers : ℕ → Node
in_towers i = if nat_lt i 2 then leaf i else over 0 (i - 2)

-- a name over the node before
abbrev pub in_chain : ℕ → Node
in_chain i = if nat_lt 0 i then over i (i - 1) else leaf i

-- as many names alone, and then each over the next two nodes that nothing stands over yet
abbrev pub in_tree : ℕ → ℕ → Node
in_tree leaves i = if nat_lt i leaves then leaf i else pair i (2 * (i - leaves)) (2 * (i - leaves) + 1)

abbrev pub node_asked : Shape → ℕ → ℕ → Node
node_asked Apart rows i = leaf i
node_asked Falling rows i = leaf i
node_asked Towers rows i = in_towers i
node_asked Chain rows i = in_chain i
node_asked Tree rows i = in_tree (rows - rows / 2) i

abbrev pub pair_of : Option (NodeId × NodeId) → Option (ℕ × ℕ)
pair_of (Some p) = Some (p.0.0, p.1.0)
pair_of None = None

-- each node is equated to the first, from the first on, or else to the one before, from the last on
abbrev pub pair_asked : Shape → ℕ → ℕ → Option (ℕ × ℕ)
pair_asked Apart rows i = Some (0, i)
pair_asked Towers rows i = Some (0, i)
pair_asked Falling rows i = Some (rows - 1 - i - 1, rows - 1 - i)
pair_asked Chain rows i = None
pair_asked Tree rows i = None
