-- The theorems, as statements. Each is the contract of one function of this crate, which stands for its proof; crates above cite them.
--
-- | word         | theorem                                                                                            |
-- |--------------|----------------------------------------------------------------------------------------------------|
-- | OneReading   | a text is the text of one lawful build at most                                                     |
-- | DepthWithin  | a lawful build is no deeper than its text is long                                                  |
-- | Completeness | in a closed table two nodes are equal exactly if they are of one class                             |
-- | Exactness    | in a closed table the grammar of the classes generates exactly the builds equal to a node's        |
-- | CheapestAt C | where choices are settled, what they spell is equal to the node's build, and nothing equal is      |
-- |              | cheaper; for each type C of costs                                                                  |
use Rattle.std.specs.Prelude.{◌≡◌, ℕ, ◌<◌, ◌≤◌, ◌↔◌, length}
use Rattle.theory.specs.Builds.{Build, text, depth, Lawful}
use Rattle.theory.specs.Equality.{Equal}
use Rattle.theory.specs.Tables.{Table, NodePairs, Closed, Generated, Matches, equations, build_at}
use Rattle.theory.specs.Costs.{Rule, RuleLaws, Settled, AtMost, cost_of, spelled}

abbrev pub OneReading : Type 0
OneReading = (u v : Build) → Lawful u → Lawful v → text u ≡ text v → u ≡ v

abbrev pub DepthWithin : Type 0
DepthWithin = (u : Build) → Lawful u → depth u ≤ length (text u)

abbrev pub Completeness : Type 0
Completeness =
    (t : Table) (class : ℕ → ℕ) (es : NodePairs) → Closed t class es → (i j : ℕ) → i < length t → j < length t
    → Equal (equations t es) (build_at t i) (build_at t j) ↔ (class i ≡ class j)

-- of a build u and a node i
pub record Exact (t : Table) (class : ℕ → ℕ) (es : NodePairs) (u : Build) (i : ℕ) : Type 0 where
  -- u is equal to the node's build exactly if the grammar generates it at the node's class
  pub whole : Equal (equations t es) u (build_at t i) ↔ Generated t class u (class i)
  -- and exactly if the production of some node of that class matches it
  pub step : Equal (equations t es) u (build_at t i) ↔ ((j : ℕ) × (j < length t) × (class j ≡ class i) × Matches (equations t es) t u j)

abbrev pub Exactness : Type 0
Exactness =
    (t : Table) (class : ℕ → ℕ) (es : NodePairs) → Closed t class es → (u : Build) (i : ℕ) → i < length t → Exact t class es u i

-- what the choices spell
pub record Spells {C : Type 0} (rule : Rule C) (t : Table) (class : ℕ → ℕ) (es : NodePairs) (choice rank : ℕ → ℕ) (cost : ℕ → C) : Type 0 where
  -- it is equal to the node's build
  pub equal : (i : ℕ) → i < length t → Equal (equations t es) (spelled t class choice rank i) (build_at t i)
  -- it costs what the class costs
  pub costs : (i : ℕ) → i < length t → cost_of rule (spelled t class choice rank i) ≡ cost (class i)
  -- no build that is equal to the node's is cheaper
  pub least : (i : ℕ) → i < length t → (u : Build) → Equal (equations t es) u (build_at t i)
      → AtMost rule (cost_of rule (spelled t class choice rank i)) (cost_of rule u)
  -- two nodes spell one build exactly if they are equal
  pub same_spelling : (i j : ℕ) → i < length t → j < length t
      → (spelled t class choice rank i ≡ spelled t class choice rank j) ↔ Equal (equations t es) (build_at t i) (build_at t j)

abbrev pub CheapestAt : Type 0 → Type 0
CheapestAt C =
    (rule : Rule C) → RuleLaws rule → (t : Table) (class : ℕ → ℕ) (es : NodePairs) → Closed t class es
    → (choice rank : ℕ → ℕ) (cost : ℕ → C) → Settled rule t class choice rank cost → Spells rule t class es choice rank cost
