-- The first field is no kind's word, or the line is headed by its kind.
use Rattle.std.proofs.Common.{arith, rules}
use Rattle.text.specs.Scanning.{tab}
use Rattle.records.proofs.Heads.{kind_told}
use Rattle.records.proofs.record.Line.kind.Goals as goal

pub returns : goal.returns
returns c =
    kind_told c.args.self.start c.args.self.bytes.now _ _ c.of.result _ (omega arith) c.in_default.ensures (c.stretch_until.ensures tab (λ b r h. search rules)) c.into-2.ensures
    c.of.ensures c.ok_or.ensures.value
