use Rattle.book.specs.Held.{contents}
use Rattle.book.proofs.Whole.{sound_of}
use Rattle.pricing.proofs.spread.store.Goals as goal

pub spread-requires : goal.spread-requires
spread-requires g c =
    let K = sound_of (contents c.args.table.now) c.requires.holds in
    record { fits = (K.nodes_fit.0, K.nodes_fit.1, c.requires.room); based = K.based }
