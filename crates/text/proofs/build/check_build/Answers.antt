-- What the verdict on a reading says of builds is law.
use Rattle.text.proofs.ReadingVerdicts.{checked}
use Rattle.text.proofs.build.check_build.Goals as goal

pub returns : goal.returns
returns c =
    let e = c.read_whole.ensures in
    let k = checked c.args.levels c.args.bytes.now c.read_whole.result e in
    record { value = e; build = k.build; granted = k.granted; deep = k.deep; shallow = k.shallow }
