-- A full book by calls: its names, its nodes and its equations, one of each to a row. Cited by the contract of `fill`.
--
-- | word        | meaning                                                                                                          |
-- |-------------|------------------------------------------------------------------------------------------------------------------|
-- | is_granted  | whether an answer is a grant                                                                                     |
-- | Tried       | a call on a book, by its relation, and whether it is granted                                                     |
-- | Names       | the i-th name is named                                                                                           |
-- | Enters      | the i-th node of a shape is entered                                                                              |
-- | EquatesPair | two nodes are equated, or else nothing is asked and nothing granted                                              |
-- | Equates     | the i-th pair of a shape is equated, if the shape has equations                                                  |
-- | Filling     | all names, then all nodes, then all equations, each from where the one before ends; how many of each are granted |
use Rattle.std.specs.Prelude.{◌≡◌, ℕ, Bool, true, false, Option, Some, None}
use Rattle.theory.specs.Books.{State}
use Rattle.theory.specs.Calls.{Answer, granted, refused, Naming, Entering, Equating}
use Rattle.samples.specs.declared.filling.Filled.{Filled}
use Rattle.samples.specs.declared.shape.Shape.{Shape}
use Rattle.samples.specs.Running.{Run}
use Rattle.samples.specs.Shapes.{nth_name, node_asked, pair_asked}

abbrev pub is_granted : Answer ℕ → Bool
is_granted (granted n) = true
is_granted (refused n) = false

pub record Tried (call : State → Answer ℕ → State → Type 0) (s : State) (ok : Bool) (t : State) : Type 0 where
  pub answer : Answer ℕ
  pub met : call s answer t
  pub told : ok ≡ is_granted answer

abbrev pub Names : ℕ → State → Bool → State → Type 0
Names i = Tried (λ s answer t. Naming s (nth_name i) answer t)

abbrev pub Enters : Shape → ℕ → ℕ → State → Bool → State → Type 0
Enters shape rows i = Tried (λ s answer t. Entering s (node_asked shape rows i) answer t)

abbrev pub EquatesPair : Option (ℕ × ℕ) → State → Bool → State → Type 0
EquatesPair (Some p) s ok t = Tried (λ s answer t. Equating s p.0 p.1 answer t) s ok t
EquatesPair None s ok t = (ok ≡ false) × (t ≡ s)

abbrev pub Equates : Shape → ℕ → ℕ → State → Bool → State → Type 0
Equates shape rows i = EquatesPair (pair_asked shape rows i)

pub record Filling (shape : Shape) (rows : ℕ) (s : State) (filled : Filled) (t : State) : Type 0 where
  pub named : State
  pub entered : State
  pub names : Run Names s rows filled.names named
  pub nodes : Run (Enters shape rows) named rows filled.nodes entered
  pub equations : Run (Equates shape rows) entered rows filled.equations t
