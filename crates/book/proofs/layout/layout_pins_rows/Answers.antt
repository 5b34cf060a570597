-- The rows after a call are pinned.
use Rattle.book.proofs.Pinning.{pins}
use Rattle.book.proofs.layout.layout_pins_rows.Goals as goal

pub returns : goal.returns
returns c = pins
