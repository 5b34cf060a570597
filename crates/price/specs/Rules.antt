-- What a price rule makes of builds. Cited by the theorem that the laws hold of builds.
--
-- | word    | meaning                                                                                             |
-- |---------|-----------------------------------------------------------------------------------------------------|
-- | number  | the symbol number of a name                                                                         |
-- | rule_of | the rule's four functions, by what it holds, over names: a build then costs what `cost_of` says     |
-- | by_cost | builds themselves as costs: one is below another if it costs less                                   |
-- | Costed  | the laws on builds: every build's cost is one of the rule's, and order, growth and weight hold      |
use Rattle.std.specs.Prelude.{ℕ, Bool}
use Rattle.theory.specs.Names.{Name}
use Rattle.theory.specs.Builds.{Build, alone, one, two}
use Rattle.theory.specs.Costs.{Rule, RuleLaws, cost_of}

abbrev pub rule_of : {R C : Type 0} → (C → C → Bool) → (R → ℕ → C) → (R → ℕ → C → C) → (R → ℕ → C → C → C) → R → (Name → ℕ) → Rule C
rule_of below alone' one' two' r number =
    record { cost_alone = λ x. alone' r (number x); cost_one = λ x. one' r (number x); cost_two = λ x. two' r (number x); below = below }

abbrev pub by_cost : {C : Type 0} → Rule C → Rule Build
by_cost rule = record { cost_alone = alone; cost_one = one; cost_two = two; below = λ u v. rule.below (cost_of rule u) (cost_of rule v) }

pub record Costed {C : Type 0} (fits : C → Type 0) (rule : Rule C) : Type 0 where
  pub costs : (u : Build) → fits (cost_of rule u)
  pub laws : RuleLaws (by_cost rule)
