-- The answer for the fields behind the kind word is the answer for the line.
use Rattle.std.proofs.Common.{length, ap}
use Rattle.records.proofs.Heads.{whole_line}
use Rattle.records.proofs.record.Line.read.Goals as goal

pub returns : goal.returns
returns c =
    whole_line c.args.self.start c.args.self.bytes.now c.in_ok-kind.kind _ (ap length c.word-word.ensures)
    c.in_ok-kind.ensures c.record_of.result c.record_of.ensures
