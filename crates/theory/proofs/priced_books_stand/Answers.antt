-- Cheapest builds stand where the choices are those of the stages, by priced_stands.
use Rattle.theory.proofs.Spelling.{priced_stands}
use Rattle.theory.proofs.priced_books_stand.Goals as goal

pub returns : goal.returns
returns c = priced_stands
