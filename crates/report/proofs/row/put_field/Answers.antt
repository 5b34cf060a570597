-- The part is written over, and then the byte behind it.
use Rattle.std.proofs.Common.{arith}
use Rattle.report.proofs.Rows.{put_made}
use Rattle.report.proofs.row.put_field.Goals as goal

pub returns : goal.returns
returns c =
    record {
      after = put_made c.args.out.now c.args.field.now _ c.args.at _ c.copy_from_slice.ensures.after (omega arith) c.requires;
    }
