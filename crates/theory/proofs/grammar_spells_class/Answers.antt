-- The grammar generates exactly what is equal, by exactness.
use Rattle.theory.proofs.Grammar.{exactness}
use Rattle.theory.proofs.grammar_spells_class.Goals as goal

pub returns : goal.returns
returns c = exactness
