-- Deducible equality: which builds some equations make equal. The definition that a reader has to believe.
--
-- | word     | meaning                                                                        |
-- |----------|--------------------------------------------------------------------------------|
-- | Equation | two builds that are said to be equal, the left one and the right one           |
-- | Equal es | the least relation between builds that holds of each equation in es, is        |
-- |          | reflexive, symmetric and transitive, and goes from parts to wholes of one name |
use Rattle.std.specs.Prelude.{List}
use mathlib.Core.List.{Memᴰ}
use Rattle.theory.specs.Names.{Name}
use Rattle.theory.specs.Builds.{Build, one, two}

abbrev pub Equation : Type 0
Equation = Build × Build

-- Substitutivity acts on parts alone: from `alone x` equal to `alone y` nothing follows for `one x u` and `one y u`.
pub data Equal (es : List Equation) : Build → Build → Type 0 where
  given : {u v : Build} → Memᴰ (u, v) es → Equal es u v
  same : {u : Build} → Equal es u u
  turned : {u v : Build} → Equal es u v → Equal es v u
  joined : {u v w : Build} → Equal es u v → Equal es v w → Equal es u w
  in_one : {x : Name} {u v : Build} → Equal es u v → Equal es (one x u) (one x v)
  in_two : {x : Name} {u v p q : Build} → Equal es u v → Equal es p q → Equal es (two x u p) (two x v q)
