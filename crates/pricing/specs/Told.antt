-- What pricing tells: the rule as one over names, the answer, and the cost table. Cited by the promise of pricing.
--
-- | word        | meaning                                                                                      |
-- |-------------|----------------------------------------------------------------------------------------------|
-- | book_rule   | a price rule over the names of a book: a name costs what its symbol does                     |
-- | done_answer | granted with nothing to say, or the refusal                                                  |
-- | CostsTold   | the cost table: what each node's class was settled at, which its spelled build costs         |
use Rattle.std.specs.Prelude.{◌≡◌, ℕ, ◌≤◌, Bool, List, length, Ok, Err, Result, slice_index_or}
use Rattle.text.specs.Causes.{number_of}
use Rattle.text.specs.declared.cause.Layer.{Layer}
use Rattle.theory.specs.Builds.{Build}
use Rattle.theory.specs.Costs.{Rule, cost_of}
use Rattle.theory.specs.Stages.{choice_in, cost_in, Stages}
use Rattle.theory.specs.Books.{State, IsNode, table, class, choice, symbol_of}
use Rattle.theory.specs.Spelling.{Spelled}
use Rattle.theory.specs.Calls.{Answer, granted, refused}
use Rattle.price.specs.Rules.{rule_of}

abbrev pub book_rule : {R C : Type 0} → (C → C → Bool) → (R → ℕ → C) → (R → ℕ → C → C) → (R → ℕ → C → C → C) → R → State → Rule C
book_rule below alone one two r s = rule_of below alone one two r (symbol_of s.names)

abbrev pub done_answer : Result (Unit {0}) Layer → Answer (Unit {0})
done_answer (Ok x) = granted tt
done_answer (Err e) = refused (number_of e)

-- of the book s, which is t afterwards; the table held `before` and holds `after`
pub record CostsTold {C : Type 0} (rule : Rule C) (s t : State) (before after : List C) : Type 0 where
  -- the nodes that settled their classes, the last first
  pub settlers : List ℕ
  pub stages : Stages rule (table s) (class s) settlers
  pub choices : (i : ℕ) → IsNode s i → choice t i ≡ choice_in (class s) settlers (class s i)
  pub costs : (i : ℕ) (d : C) → IsNode s i → slice_index_or after i d ≡ cost_in rule (table s) (class s) settlers (class s i)
  pub spelled : (i : ℕ) (d : C) → IsNode s i → (u : Build) → Spelled t i u → slice_index_or after i d ≡ cost_of rule u
  -- the rows past the nodes are as they were
  pub later : (i : ℕ) (d : C) → length s.nodes ≤ i → slice_index_or after i d ≡ slice_index_or before i d
  pub long : length after ≡ length before
