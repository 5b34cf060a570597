-- The stretch to the next line feed is the first line.
use Rattle.std.proofs.Common.{◌≡◌, length, drop, ap, arith, rules}
use Rattle.text.specs.Scanning.{feed}
use Rattle.text.proofs.Fronts.{span, span_within}
use Rattle.records.proofs.LineSplits.{line_fed, line_last}
use Rattle.records.proofs.lines.line_at.Goals as goal

pub returns-then-end-text : goal.returns-then-end-text
returns-then-end-text c =
    let xs = c.args.text.now in
    let n : length c.stretch_until-bytes.result.now ≡ span feed (drop c.args.at xs) = ap length (c.stretch_until-bytes.ensures feed (λ b r h. search rules)) in
    record {
      lines = rw (c.stretch_until-bytes.ensures feed (λ b r h. search rules)) (line_fed xs c.args.at (omega arith) (omega (arith, n)));
      next = (omega arith, omega arith);
    }

pub returns : goal.returns
returns c =
    let xs = c.args.text.now in
    let n : length c.stretch_until-bytes.result.now ≡ span feed (drop c.args.at xs) = ap length (c.stretch_until-bytes.ensures feed (λ b r h. search rules)) in
    record {
      lines = rw (c.stretch_until-bytes.ensures feed (λ b r h. search rules)) (line_last xs c.args.at (omega arith) (omega (arith, n)));
      next = (omega arith, omega (arith, n, span_within feed xs c.args.at (omega arith)));
    }
