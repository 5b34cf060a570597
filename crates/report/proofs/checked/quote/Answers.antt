-- Each turn makes one byte visible.
use Rattle.std.proofs.Common.{◌∙◌, get_or, set, ap, arith}
use Rattle.std.proofs.lemmas.List.{get_or_default}
use Rattle.std.proofs.lemmas.List.Edits.{map_over_more}
use Rattle.report.specs.Printed.{visible}
use Rattle.report.proofs.checked.quote.Goals as goal

pub loop-b-preserved : goal.loop-b-preserved
loop-b-preserved c =
    let i = c.loop-b.b-index in
    ap (set c.loop-b.quoted i) c.visible_byte.ensures
    ∙ map_over_more visible _ c.loop-b.quoted i (get_or c.loop-b.quoted i 0) (omega arith) c.loop-b.invariant (get_or_default c.loop-b.quoted i 0 _ (omega arith))
