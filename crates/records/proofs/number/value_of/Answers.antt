-- The total stays within five digits, and takes each digit in its turn.
use Rattle.std.proofs.Common.{◌<◌, ◌≤◌, length, arith}
use Rattle.records.proofs.Decimals.{below_digits, few_digits}
use Rattle.records.proofs.number.value_of.Goals as goal

pub overflow_mul-total : goal.overflow_mul-total
overflow_mul-total c =
    let lt : c.loop-b.b-index < length c.args.bytes.now = omega arith in
    let few : below_digits c.loop-b.b-index ≤ 10000 = few_digits _ (omega (arith, c.requires.few)) in
    omega (arith, c.loop-b.invariant.1)
