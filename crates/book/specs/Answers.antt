-- How a result of a call is read as an answer: a refusal by its number, and a symbol, a node or an equation by its own.
--
-- | word            | meaning                                    |
-- |-----------------|--------------------------------------------|
-- | symbol_answer   | a symbol by its number, or the refusal     |
-- | node_answer     | a node by its number, or the refusal       |
-- | equation_answer | an equation by its number, or the refusal  |
-- | test_answer     | yes or no, or the refusal                  |
use Rattle.std.specs.Prelude.{ℕ, Bool, Ok, Err, Result}
use Rattle.theory.specs.Calls.{Answer, granted, refused}
use Rattle.book.specs.declared.id.Symbol.{Symbol}
use Rattle.book.specs.declared.id.NodeId.{NodeId}
use Rattle.book.specs.declared.id.EquationId.{EquationId}
use Rattle.text.specs.Causes.{number_of}
use Rattle.text.specs.declared.cause.Layer.{Layer}

abbrev pub symbol_answer : Result Symbol Layer → Answer ℕ
symbol_answer (Ok x) = granted x.0
symbol_answer (Err e) = refused (number_of e)

abbrev pub node_answer : Result NodeId Layer → Answer ℕ
node_answer (Ok x) = granted x.0
node_answer (Err e) = refused (number_of e)

abbrev pub equation_answer : Result EquationId Layer → Answer ℕ
equation_answer (Ok x) = granted x.0
equation_answer (Err e) = refused (number_of e)

abbrev pub test_answer : Result Bool Layer → Answer Bool
test_answer (Ok v) = granted v
test_answer (Err e) = refused (number_of e)
