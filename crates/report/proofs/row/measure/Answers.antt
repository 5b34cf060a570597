-- Each field adds what it takes, and at the end nothing is ahead.
use Rattle.std.proofs.Common.{◌≡◌, ℕ, ◌+◌, ◌^◌, ◌<◌, ◌≤◌, List, Bor, length, ap, arith}
use Rattle.report.specs.Rows.{texts, row}
use Rattle.report.proofs.Rows.{spaced, field, ahead, row_max, spaced_le, length_ahead_more, ahead_all}
use Rattle.report.proofs.row.measure.Goals as goal

-- a row is longer than what was counted of it and its next field
passes : (xs : List (Bor (List ℕ))) (i n : ℕ) → i < length xs → n + length (ahead xs i) ≡ length (spaced (texts xs))
    → 2 ^ 64 ≤ n + length (field xs i) + 1 → 2 ^ 64 ≤ length (row (texts xs))
passes xs i n h e k = omega (arith, length_ahead_more xs i h, spaced_le (texts xs))

pub returns : goal.returns
returns c = omega (arith, ap length (ahead_all c.args.fields.now c.loop-field.field-index c.loop-field-test.false), row_max (texts c.args.fields.now))

pub returns-in_err-checked_add : goal.returns-in_err-checked_add
returns-in_err-checked_add c =
    rw c.from_residual.ensures (passes c.args.fields.now _ _ c.loop-field-test.true c.loop-field.invariant (omega (arith, c.in_err-checked_add.ensures)))

pub returns-in_err-len : goal.returns-in_err-len
returns-in_err-len c =
    rw c.from_residual-in_err-len.ensures
    (passes c.args.fields.now _ _ c.loop-field-test.true c.loop-field.invariant
    (let e = c.in_ok-checked_add.ensures in omega (arith, c.in_err-len.ensures)))
