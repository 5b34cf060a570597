-- The lines of a text make it up.
use Rattle.records.proofs.LineTexts.{lines_rejoin_lem}
use Rattle.records.proofs.lines.lines_rejoin.Goals as goal

pub returns : goal.returns
returns c = lines_rejoin_lem
