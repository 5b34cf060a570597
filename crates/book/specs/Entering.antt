-- What is asked for when a node is entered, what is found, and what is stored.
--
-- | word           | meaning                                                             |
-- |----------------|---------------------------------------------------------------------|
-- | asked          | the node that is asked for                                          |
-- | Within         | its parts are nodes                                                 |
-- | new_node       | the same as a row has it, in a class, with no choice                |
-- | raw_of         | what a row's node says: symbol, number of parts, parts              |
-- | same_signature | whether two nodes say the same                                      |
-- | Meets          | a node that is congruent to the last, if there is one               |
-- | Put            | a node is stored, in the class of a congruent one if there is one   |
use Rattle.std.specs.Prelude.{◌≡◌, ℕ, Bool, ◌==◌, ◌&&◌, ◌<◌, ◌⊎◌, List, Option, MatchOption, ◌≢◌, slice_set}
use Rattle.theory.specs.Books.{Node as Entry, leaf, over, pair}
use Rattle.book.specs.declared.row.Row.{Row}
use Rattle.book.specs.declared.row.Node.{Node}
use Rattle.book.specs.declared.row.Signature.{Signature}
use Rattle.book.specs.declared.id.Parts.{Parts}
use Rattle.book.specs.declared.id.Parts.TheVariants.{Zero, One, Two}
use Rattle.book.specs.Rows.{row, class, sign, with_class}

abbrev pub asked : ℕ → Parts → Entry
asked x Zero = leaf x
asked x (One p) = over x p.0
asked x (Two p q) = pair x p.0 q.0

-- the parts are below n
abbrev pub Within : Parts → ℕ → Type 0
Within Zero n = Unit {0}
Within (One p) n = p.0 < n
Within (Two p q) n = (p.0 < n) × (q.0 < n)

-- in the class c
abbrev pub new_node : ℕ → Parts → ℕ → Node
new_node x Zero c = record { symbol = x; parts = 0; left = 0; right = 0; class = c; choice = 0 }
new_node x (One p) c = record { symbol = x; parts = 1; left = p.0; right = 0; class = c; choice = 0 }
new_node x (Two p q) c = record { symbol = x; parts = 2; left = p.0; right = q.0; class = c; choice = 0 }

abbrev pub with_node : Row → Node → Row
with_node r x = record { name = r.name; node = x; equation = r.equation }

-- a node's symbol and parts
abbrev pub raw_of : Node → Signature
raw_of x = record { symbol = x.symbol; parts = x.parts; left = x.left; right = x.right }

-- whether two say the same, as `==` tells
abbrev pub same_signature : Signature → Signature → Bool
same_signature a b = (a.symbol == b.symbol) && (a.parts == b.parts) && (a.left == b.left) && (a.right == b.right)

-- a node below n that is congruent to node n
abbrev pub Meets : List Row → ℕ → Option ℕ → Type 0
Meets rows n r =
    MatchOption r ((i : ℕ) → i < n → sign rows i ≢ sign rows n) (λ i. (i < n) × (sign rows i ≡ sign rows n))

abbrev pub placed : List Row → ℕ → Node → List Row
placed rows n x = slice_set rows n (with_node (row rows n) x)

-- the node x is stored at n, in the class of a congruent node if there is one
abbrev pub Put : List Row → List Row → ℕ → Node → Type 0
Put xs ys n x =
    ((j : ℕ) × (j < n) × (sign (placed xs n x) j ≡ sign (placed xs n x) n) × (ys ≡ slice_set (placed xs n x) n (with_class (row (placed xs n x) n) (class (placed xs n x) j))))
    ⊎ (((i : ℕ) → i < n → sign (placed xs n x) i ≢ sign (placed xs n x) n) × (ys ≡ placed xs n x))
