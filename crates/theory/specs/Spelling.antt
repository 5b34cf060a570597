-- The build that a priced book spells for a node, and what it is that cheapest builds stand. Cited by the relation of spelling and by
-- the promise of pricing.
--
-- | word           | meaning                                                                                          |
-- |----------------|--------------------------------------------------------------------------------------------------|
-- | Spelled        | the build spelled for a node: the choice of its class, its parts spelled in the same way         |
-- | CheapestBuilds | each node spells one build, equal to its own; nothing equal is cheaper; equal nodes spell alike   |
-- | PricedStands   | in a book whose choices are those of the stages, by a lawful rule, cheapest builds stand         |
use Rattle.std.specs.Prelude.{◌≡◌, ℕ, false, ◌↔◌, List}
use Rattle.theory.specs.Builds.{Build, alone, one, two}
use Rattle.theory.specs.Equality.{Equation, Equal}
use Rattle.theory.specs.Tables.{atom, unary, binary, shape_at}
use Rattle.theory.specs.Costs.{Cheaper, LawfulOrder}
use Rattle.theory.specs.Books.{State, Book, Chosen, IsNode, table, build, choice, equations_in}

abbrev pub Spelled : State → ℕ → Build → Type 0
Spelled s n (alone x) = shape_at (table s) (choice s n) ≡ atom x
Spelled s n (one x u) = (p : ℕ) × (shape_at (table s) (choice s n) ≡ unary x p) × Spelled s p u
Spelled s n (two x u v) =
    (p : ℕ) × (q : ℕ) × (shape_at (table s) (choice s n) ≡ binary x p q) × Spelled s p u × Spelled s q v

-- by the equations es, and for the rule that says `cheaper` of builds
pub record CheapestBuilds (es : List Equation) (cheaper : Cheaper) (s : State) : Type 0 where
  -- for each node one build is spelled
  pub some : (n : ℕ) → IsNode s n → (u : Build) × Spelled s n u
  pub only : (n : ℕ) (u v : Build) → Spelled s n u → Spelled s n v → u ≡ v
  -- it is equal to the node's
  pub equal : (n : ℕ) → IsNode s n → (u : Build) → Spelled s n u → Equal es u (build s n)
  -- no build equal to the node's, of any size, costs less
  pub least : (n : ℕ) → IsNode s n → (u : Build) → Spelled s n u → (v : Build) → Equal es v (build s n) → cheaper v u ≡ false
  -- two nodes spell the same build exactly when their builds are equal
  pub same_spelling : (m n : ℕ) → IsNode s m → IsNode s n → (u v : Build) → Spelled s m u → Spelled s n v
      → (u ≡ v) ↔ Equal es (build s m) (build s n)

abbrev pub PricedStands : Type 0
PricedStands =
    (s : State) → Book s → (cheaper : Cheaper) → LawfulOrder cheaper → Chosen s cheaper s.choices
    → CheapestBuilds (equations_in s) cheaper s
