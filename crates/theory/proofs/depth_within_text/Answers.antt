-- A lawful build is no deeper than its text is long, by depth_within.
use Rattle.theory.proofs.Texts.{depth_within}
use Rattle.theory.proofs.depth_within_text.Goals as goal

pub returns : goal.returns
returns c = depth_within
