-- What every price rule keeps. Cited by the trait of price rules; each rule owes these of its own costs.
--
-- | word    | meaning                                                                                      |
-- |---------|----------------------------------------------------------------------------------------------|
-- | fits    | the value is one of the rule's costs                                                         |
-- | below   | the first cost is below the second                                                           |
-- | AtMost  | the first cost is no dearer than the second                                                  |
-- | alone   | the cost of a symbol alone, by what the rule holds                                           |
-- | one     | the cost of a symbol over one part's cost                                                    |
-- | two     | the cost of a symbol over two parts' costs                                                   |
-- | Fitting | whatever the rule answers is one of its costs                                                |
-- | Order   | no cost is below itself, below is transitive, of two different costs one is below the other  |
-- | Growth  | raising one part's cost never lowers the whole                                               |
-- | Weight  | the whole is never below one of its parts                                                    |
use Rattle.std.specs.Prelude.{◌≡◌, ℕ, Bool, true, false}

-- b is not below a
abbrev pub AtMost : {C : Type 0} → (C → C → Bool) → C → C → Type 0
AtMost below a b = below b a ≡ false

-- the answers are costs, where the parts' costs are
pub record Fitting {R C : Type 0} (fits : C → Type 0) (alone : R → ℕ → C) (one : R → ℕ → C → C) (two : R → ℕ → C → C → C) : Type 0 where
  pub fits_alone : (r : R) (x : ℕ) → fits (alone r x)
  pub fits_one : (r : R) (x : ℕ) (a : C) → fits a → fits (one r x a)
  pub fits_two : (r : R) (x : ℕ) (a b : C) → fits a → fits b → fits (two r x a b)

pub record Order {C : Type 0} (below : C → C → Bool) : Type 0 where
  pub irreflexive : (a : C) → below a a ≡ false
  pub transitive : (a b c : C) → below a b ≡ true → below b c ≡ true → below a c ≡ true
  -- where neither is below the other, they are one cost
  pub total : (a b : C) → below a b ≡ false → below b a ≡ false → a ≡ b

-- a dearer part makes no cheaper whole
pub record Growth {R C : Type 0} (fits : C → Type 0) (below : C → C → Bool) (one : R → ℕ → C → C) (two : R → ℕ → C → C → C) : Type 0 where
  pub growth_one : (r : R) (x : ℕ) (a b : C) → fits a → fits b
      → AtMost below a b → AtMost below (one r x a) (one r x b)
  pub growth_left : (r : R) (x : ℕ) (a b c : C) → fits a → fits b → fits c
      → AtMost below a b → AtMost below (two r x a c) (two r x b c)
  pub growth_right : (r : R) (x : ℕ) (a b c : C) → fits a → fits b → fits c
      → AtMost below a b → AtMost below (two r x c a) (two r x c b)

-- a whole is no cheaper than its parts
pub record Weight {R C : Type 0} (fits : C → Type 0) (below : C → C → Bool) (one : R → ℕ → C → C) (two : R → ℕ → C → C → C) : Type 0 where
  pub weight_one : (r : R) (x : ℕ) (a : C) → fits a → AtMost below a (one r x a)
  pub weight_left : (r : R) (x : ℕ) (a b : C) → fits a → fits b → AtMost below a (two r x a b)
  pub weight_right : (r : R) (x : ℕ) (a b : C) → fits a → fits b → AtMost below b (two r x a b)
