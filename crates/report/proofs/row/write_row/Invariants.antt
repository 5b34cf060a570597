-- The fields behind are written, those ahead make up the spaced row, and past `at` the buffer is as it was.
use Rattle.std.proofs.Common.{◌≡◌, ◌+◌, ◌++◌, length, take, drop}
use Rattle.report.specs.Rows.{texts}
use Rattle.report.proofs.Rows.{spaced, ahead}
use Rattle.report.proofs.row.write_row.Given as goal

abbrev pub invariant-loop-field : goal.invariant-loop-field
invariant-loop-field l =
    (take l.at l.out ++ ahead l.fields l.field-index ≡ spaced (texts l.fields)) ×
    (l.at + length (ahead l.fields l.field-index) ≡ length (spaced (texts l.fields))) ×
    (drop l.at l.out ≡ drop l.at l.initial.out)
