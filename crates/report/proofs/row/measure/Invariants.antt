-- What is counted and what the fields ahead still add make the length of the spaced fields.
use Rattle.std.proofs.Common.{◌≡◌, ◌+◌, length}
use Rattle.report.specs.Rows.{texts}
use Rattle.report.proofs.Rows.{spaced, ahead}
use Rattle.report.proofs.row.measure.Given as goal

abbrev pub invariant-loop-field : goal.invariant-loop-field
invariant-loop-field l = l.len + length (ahead l.fields l.field-index) ≡ length (spaced (texts l.fields))
