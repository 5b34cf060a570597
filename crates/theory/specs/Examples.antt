-- Worked examples of deducible equality. Cited by the function that stands for them.
--
-- | word     | meaning                                                                          |
-- |----------|----------------------------------------------------------------------------------|
-- | Example  | some equations, two builds, and whether the equations make the two equal         |
-- | Stands   | the equations make the two builds equal exactly if the example says so           |
-- | examples | the list                                                                         |
-- | Examples | every example of the list stands                                                 |
use Rattle.std.specs.Prelude.{ℕ, zero, suc, Bool, true, false, List, [], ◌∷◌, Decides}
use Rattle.theory.specs.Builds.{Build, alone, one, two}
use Rattle.theory.specs.Equality.{Equation, Equal}

pub record Example : Type 0 where
  pub equations : List Equation
  pub left : Build
  pub right : Build
  pub equal : Bool

abbrev pub Stands : Example → Type 0
Stands e = Decides e.equal (Equal e.equations e.left e.right)

-- the builds a, b, s1 and s2
abbrev pub a : Build
a = alone (97 ∷ [])

abbrev pub b : Build
b = alone (98 ∷ [])

abbrev pub s1 : Build
s1 = alone (115 ∷ 49 ∷ [])

abbrev pub s2 : Build
s2 = alone (115 ∷ 50 ∷ [])

-- f(..f(f(a,b),b)..,b), with so many f
abbrev pub tower : ℕ → Build
tower zero = a
tower (suc n) = two (102 ∷ []) (tower n) b

abbrev pub examples : List Example
examples =
    -- a = f(a,b) makes f(f(a,b),b) equal to a
    record { equations = (a, tower 1) ∷ []; left = tower 2; right = a; equal = true }
    -- f(f(f(a,b),b),b) = a alone does not make f(a,b) equal to a
    ∷ record { equations = (tower 3, a) ∷ []; left = tower 1; right = a; equal = false }
    -- with f(f(f(f(f(a,b),b),b),b),b) = a as well it does
    ∷ record { equations = (tower 3, a) ∷ (tower 5, a) ∷ []; left = tower 1; right = a; equal = true }
    -- s1 = s2 says nothing of s1(a) and s2(a)
    ∷ record { equations = (s1, s2) ∷ []; left = one (115 ∷ 49 ∷ []) a; right = one (115 ∷ 50 ∷ []) a; equal = false }
    -- one name over one part and over two parts makes different builds
    ∷ record { equations = []; left = one (102 ∷ []) a; right = two (102 ∷ []) a a; equal = false }
    -- a = b makes f(a,b) equal to f(b,b)
    ∷ record { equations = (a, b) ∷ []; left = tower 1; right = two (102 ∷ []) b b; equal = true }
    ∷ []

abbrev pub EachStands : List Example → Type 0
EachStands [] = Unit {0}
EachStands (e ∷ es) = Stands e × EachStands es

abbrev pub Examples : Type 0
Examples = EachStands examples
