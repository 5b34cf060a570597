-- A refusal's place is within the most bytes that a line may have, so that number and place fit one answer.
use Rattle.std.proofs.Common.{◌≤◌, arith}
use Rattle.records.specs.Judging.{longest_line}
use Rattle.records.proofs.Verdicts.{place_short}
use Rattle.records.proofs.screen.pairing_check_line.Goals as goal

pub overflow_cast-result-in-Err : goal.overflow_cast-result-in-Err
overflow_cast-result-in-Err c =
    let h : c.in-Err.refusal.place ≤ longest_line = place_short c.args.line.now c.in-Err.refusal c.in-Err.ensures.refused in
    omega arith

pub overflow_add-result : goal.overflow_add-result
overflow_add-result c =
    let h : c.in-Err.refusal.place ≤ longest_line = place_short c.args.line.now c.in-Err.refusal c.in-Err.ensures.refused in
    omega arith
