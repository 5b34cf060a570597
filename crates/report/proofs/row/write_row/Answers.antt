-- Each turn writes one field and its space; the line feed goes over the last of them.
use Rattle.std.proofs.Common.{◌≤◌, length, arith}
use Rattle.report.specs.Rows.{texts, row}
use Rattle.report.proofs.Rows.{ahead_more, length_ahead_more, ahead_all, room_ahead, put_front, put_back, printed}
use Rattle.report.proofs.row.write_row.Goals as goal

pub put_field-requires : goal.put_field-requires
put_field-requires c =
    let fits : length (row (texts c.args.fields.now)) ≤ length c.loop-field.out = omega arith in
    room_ahead _ _ _ _ c.loop-field-test.true c.loop-field.invariant.1 fits

pub loop-field-preserved : goal.loop-field-preserved
loop-field-preserved c =
    let fits : length (row (texts c.args.fields.now)) ≤ length c.loop-field.out = omega arith in
    let room = room_ahead _ _ _ _ c.loop-field-test.true c.loop-field.invariant.1 fits in
    let more = ahead_more _ _ c.loop-field-test.true in
    let front = put_front _ _ _ _ _ _ _ room c.put_field.ensures.after more c.loop-field.invariant.0 in
    let back = put_back _ _ _ _ _ room c.put_field.ensures.after c.loop-field.invariant.2 in
    let less = length_ahead_more c.args.fields.now c.loop-field.field-index c.loop-field-test.true in
    (front, omega arith, back)

pub returns : goal.returns
returns c =
    let none = ahead_all _ _ c.loop-field-test.false in
    record {
      after = printed (texts c.args.fields.now) _ _ _ _ _ none c.loop-field.invariant.0 c.loop-field.invariant.1 c.loop-field.invariant.2 c.requires.measured c.requires.fits;
    }
