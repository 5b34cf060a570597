-- A text is the text of one lawful build at most, by one_reading.
use Rattle.theory.proofs.Texts.{one_reading}
use Rattle.theory.proofs.text_reads_one_way.Goals as goal

pub returns : goal.returns
returns c = one_reading
