-- The test stops at just the bytes that no name has.
use Rattle.std.proofs.Common.{rules, not, ◌∙◌}
use Rattle.theory.specs.Names.{name_byte}
use Rattle.text.proofs.Fronts.{front_run}
use Rattle.text.proofs.name.split_name.Goals as goal

pub returns-clause-name : goal.returns-clause-name
returns-clause-name c = c.split_front.ensures.front (λ b. not (name_byte b)) (λ b r h. search rules) ∙ front_run c.args.text.now
