-- What a build costs under a rule, and what it is to have chosen a cheapest node for each class. Cited by every contract that
-- prices or spells a build.
--
-- | word      | meaning                                                                                           |
-- |-----------|---------------------------------------------------------------------------------------------------|
-- | Rule C    | costs of type C: of a name alone, of a name over the costs of its parts, and when one is below    |
-- | cost_of   | what a build costs                                                                                |
-- | cost_over | what a shape costs, from a cost for each part                                                     |
-- | AtMost    | the first cost is no dearer than the second                                                       |
-- | RuleLaws  | order, growth and weight: what a rule must meet for a cheapest build to be found class by class   |
-- | Cheaper   | a rule by what it says of builds alone: whether the first costs less than the second              |
-- | by_builds | such a rule as a rule whose costs are builds: a build costs itself                                |
-- | LawfulOrder | what is said of builds keeps the laws                                                           |
-- | cheaper_by | what a rule says of builds: compared by what they cost                                           |
-- | choice    | for each class the number of the node chosen for it                                               |
-- | rank      | for each class how many classes were settled before it                                            |
-- | Settled   | every class has a choice, made in an order in which costs do not fall, each the cheapest it could |
-- | spelled   | the build that the choices spell for a node's class                                               |
use Rattle.std.specs.Prelude.{◌≡◌, ℕ, zero, suc, ◌<◌, ◌≤◌, Bool, true, false, length}
use Rattle.theory.specs.Names.{Name}
use Rattle.theory.specs.Builds.{Build, alone, one, two}
use Rattle.theory.specs.Tables.{Shape, atom, unary, binary, Table, shape_at, EachPart, build_over, no_build}

pub record Rule (C : Type 0) : Type 0 where
  pub cost_alone : Name → C
  pub cost_one : Name → C → C
  pub cost_two : Name → C → C → C
  pub below : C → C → Bool

abbrev pub cost_of : {C : Type 0} → Rule C → Build → C
cost_of rule (alone x) = rule.cost_alone x
cost_of rule (one x u) = rule.cost_one x (cost_of rule u)
cost_of rule (two x u v) = rule.cost_two x (cost_of rule u) (cost_of rule v)

abbrev pub cost_over : {C : Type 0} → Rule C → (ℕ → C) → Shape → C
cost_over rule f (atom x) = rule.cost_alone x
cost_over rule f (unary x p) = rule.cost_one x (f p)
cost_over rule f (binary x p q) = rule.cost_two x (f p) (f q)

-- b is not below a
abbrev pub AtMost : {C : Type 0} → Rule C → C → C → Type 0
AtMost rule a b = rule.below b a ≡ false

pub record RuleLaws {C : Type 0} (rule : Rule C) : Type 0 where
  -- order: `below` is a strict order
  pub irreflexive : (a : C) → rule.below a a ≡ false
  pub transitive : (a b c : C) → rule.below a b ≡ true → rule.below b c ≡ true → rule.below a c ≡ true
  -- and to be no dearer is transitive, which lets two different costs tie; it follows where of two different costs one is below
  pub ties : (a b c : C) → AtMost rule a b → AtMost rule b c → AtMost rule a c
  -- growth: a dearer part makes no cheaper whole
  pub growth_one : (x : Name) (a b : C) → AtMost rule a b → AtMost rule (rule.cost_one x a) (rule.cost_one x b)
  pub growth_left : (x : Name) (a b c : C) → AtMost rule a b → AtMost rule (rule.cost_two x a c) (rule.cost_two x b c)
  pub growth_right : (x : Name) (a b c : C) → AtMost rule a b → AtMost rule (rule.cost_two x c a) (rule.cost_two x c b)
  -- weight: a whole is no cheaper than its parts
  pub weight_one : (x : Name) (a : C) → AtMost rule a (rule.cost_one x a)
  pub weight_left : (x : Name) (a b : C) → AtMost rule a (rule.cost_two x a b)
  pub weight_right : (x : Name) (a b : C) → AtMost rule b (rule.cost_two x a b)

abbrev pub Cheaper : Type 0
Cheaper = Build → Build → Bool

abbrev pub by_builds : Cheaper → Rule Build
by_builds cheaper = record { cost_alone = alone; cost_one = one; cost_two = two; below = cheaper }

-- two builds may cost the same, so neither is then cheaper
abbrev pub LawfulOrder : Cheaper → Type 0
LawfulOrder cheaper = RuleLaws (by_builds cheaper)

abbrev pub cheaper_by : {C : Type 0} → Rule C → Cheaper
cheaper_by rule u v = rule.below (cost_of rule u) (cost_of rule v)

pub record Settled {C : Type 0} (rule : Rule C) (t : Table) (class choice rank : ℕ → ℕ) (cost : ℕ → C) : Type 0 where
  -- the choice is a node, and one of the class
  pub node : (i : ℕ) → i < length t → choice (class i) < length t
  pub own : (i : ℕ) → i < length t → class (choice (class i)) ≡ class i
  -- the classes of the chosen node's parts were settled before
  pub earlier : (i : ℕ) → i < length t → EachPart (λ p. rank (class p) < rank (class i)) (shape_at t (choice (class i)))
  -- a class costs what its chosen node costs over the classes of its parts
  pub adds : (i : ℕ) → i < length t → cost (class i) ≡ cost_over rule (λ p. cost (class p)) (shape_at t (choice (class i)))
  -- what was settled before costs no more
  pub ordered : (i j : ℕ) → i < length t → j < length t → rank (class i) ≤ rank (class j) → AtMost rule (cost (class i)) (cost (class j))
  -- the chosen node was no dearer than any of the class that could be chosen then
  pub cheapest : (i : ℕ) → i < length t → EachPart (λ p. rank (class p) < rank (class i)) (shape_at t i)
      → AtMost rule (cost (class i)) (cost_over rule (λ p. cost (class p)) (shape_at t i))

-- the build that the choices spell for the class k, at most `fuel` deep
abbrev pub spell : Table → (ℕ → ℕ) → (ℕ → ℕ) → ℕ → ℕ → Build
spell t class choice zero k = no_build
spell t class choice (suc fuel) k = build_over (λ p. spell t class choice fuel (class p)) (shape_at t (choice k))

-- a class of rank n spells a build of depth n + 1 at most, so this much fuel suffices
abbrev pub spelled : Table → (ℕ → ℕ) → (ℕ → ℕ) → (ℕ → ℕ) → ℕ → Build
spelled t class choice rank i = spell t class choice (suc (rank (class i))) (class i)
