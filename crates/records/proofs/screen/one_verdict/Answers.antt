-- A line has one verdict.
use Rattle.records.proofs.Verdicts.{one_verdict_lem}
use Rattle.records.proofs.screen.one_verdict.Goals as goal

pub returns : goal.returns
returns c = one_verdict_lem
