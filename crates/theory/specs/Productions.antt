-- The grammar of a class: its productions, which of them are reached from a node's class, and their order in a listing. Cited by the
-- relation of listing.
--
-- | word       | meaning                                                                                              |
-- |------------|------------------------------------------------------------------------------------------------------|
-- | Production | a class, a symbol, the number of its parts and the classes of these; a missing part's class is 0     |
-- | production | the production of a node                                                                             |
-- | Part       | the node is a part of another                                                                        |
-- | Reached    | the class is that of a node, or that of a part of a node whose class is reached                      |
-- | FirstWith  | the lowest node that has a production                                                                |
-- | Before     | the first production is listed before the second: by class, and then by the lowest node that has it |
-- | Listed     | every production that is reached from a node's class, each once, in order                            |
-- | Derives    | some productions, as a grammar, spell a build from a class                                           |
-- | ListedExact | the listed productions spell exactly the builds that are equal to the node's build                  |
use Rattle.std.specs.Prelude.{◌≡◌, ℕ, ◌<◌, ◌≤◌, ◌⊎◌, ◌↔◌, List, length, slice_index_or}
use mathlib.Core.List.{Memᴰ}
use Rattle.theory.specs.Builds.{Build, alone, one, two}
use Rattle.theory.specs.Equality.{Equal}
use Rattle.theory.specs.Books.{Node, leaf, over, pair, State, Book, IsNode, build, node_at, name_at, class, equations_in}

pub record Production : Type 0 where
  pub of : ℕ
  pub symbol : ℕ
  pub parts : ℕ
  pub left : ℕ
  pub right : ℕ

abbrev pub made_by : State → ℕ → Node → Production
made_by s k (leaf x) = record { of = k; symbol = x; parts = 0; left = 0; right = 0 }
made_by s k (over x p) = record { of = k; symbol = x; parts = 1; left = class s p; right = 0 }
made_by s k (pair x p q) = record { of = k; symbol = x; parts = 2; left = class s p; right = class s q }

abbrev pub production : State → ℕ → Production
production s j = made_by s (class s j) (node_at s j)

abbrev pub Part : ℕ → Node → Type 0
Part p (leaf x) = ⊥
Part p (over x q) = p ≡ q
Part p (pair x q r) = (p ≡ q) ⊎ (p ≡ r)

-- from the class of node n
pub data Reached (s : State) (n : ℕ) : ℕ → Type 0 where
  top : Reached s n (class s n)
  below : (j p : ℕ) → IsNode s j → Reached s n (class s j) → Part p (node_at s j) → Reached s n (class s p)

pub record FirstWith (s : State) (p : Production) (j : ℕ) : Type 0 where
  pub here : IsNode s j
  pub has : production s j ≡ p
  pub low : (i : ℕ) → IsNode s i → production s i ≡ p → j ≤ i

pub data Before (s : State) (p q : Production) : Type 0 where
  by_class : p.of < q.of → Before s p q
  by_node : p.of ≡ q.of → (j k : ℕ) → FirstWith s p j → FirstWith s q k → j < k → Before s p q

-- stands past the end of a list
abbrev pub no_production : Production
no_production = record { of = 0; symbol = 0; parts = 0; left = 0; right = 0 }

pub record Listed (s : State) (n : ℕ) (ps : List Production) : Type 0 where
  pub every : (j : ℕ) → IsNode s j → Reached s n (class s j) → Memᴰ (production s j) ps
  pub only : (p : Production) → Memᴰ p ps → (j : ℕ) × IsNode s j × Reached s n (class s j) × (production s j ≡ p)
  pub order : (a b : ℕ) → a < b → b < length ps → Before s (slice_index_or ps a no_production) (slice_index_or ps b no_production)

-- from class k: one production of k has the build's name and as many parts, and each part is spelled from the part's class
abbrev pub Derives : State → List Production → Build → ℕ → Type 0
Derives s ps (alone x) k = (p : Production) × Memᴰ p ps × (p.of ≡ k) × (name_at s p.symbol ≡ x) × (p.parts ≡ 0)
Derives s ps (one x u) k =
    (p : Production) × Memᴰ p ps × (p.of ≡ k) × (name_at s p.symbol ≡ x) × (p.parts ≡ 1) × Derives s ps u p.left
Derives s ps (two x u v) k =
    (p : Production) × Memᴰ p ps × (p.of ≡ k) × (name_at s p.symbol ≡ x) × (p.parts ≡ 2) × Derives s ps u p.left × Derives s ps v p.right

abbrev pub ListedExact : Type 0
ListedExact =
    (s : State) → Book s → (n : ℕ) → IsNode s n → (ps : List Production) → Listed s n ps → (u : Build)
    → Equal (equations_in s) u (build s n) ↔ Derives s ps u (class s n)
