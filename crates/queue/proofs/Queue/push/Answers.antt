-- The entry is put behind those that are held, and sifted up.
use Rattle.std.proofs.Common.{◌+◌, ◌-◌, ◌<◌, length, drop, set, sym, refl, arith}
use Rattle.std.proofs.lemmas.Bool.{ltb-true}
use Rattle.queue.proofs.Held.{pushed, push_order}
use Rattle.queue.proofs.Queue.push.Goals as goal

pub returns-clause-after : goal.returns-clause-after
returns-clause-after g c =
    let es = c.args.self.now.entries.now in
    let n = c.args.self.now.count in
    let e = c.args.e in
    let room : n < length es = ltb-true n (length es) (sym c.if-not-has_room.ensures) in
    record { count = refl {a = n + 1}; adds = pushed es c.sift_up.new.s (drop ((n + 1) - 0) (set es n e)) n ((n + 1) - 0) e (omega arith) room c.sift_up.ensures.shuffled }

pub returns-clause-order : goal.returns-clause-order
returns-clause-order g c =
    let es = c.args.self.now.entries.now in
    let n = c.args.self.now.count in
    let f = c.sift_up.ensures in
    let room : n < length es = ltb-true n (length es) (sym c.if-not-has_room.ensures) in
    push_order g.R.PriceRule.below es c.sift_up.new.s _ n ((n + 1) - 0) c.args.e (omega arith) room f.shuffled f.order
