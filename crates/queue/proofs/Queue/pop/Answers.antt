-- The first entry changes places with the last, which is sifted down.
use Rattle.std.proofs.Common.{◌≡◌, ◌+◌, ◌-◌, drop, arith}
use Rattle.queue.proofs.Held.{popped, pop_order, top_first, read_whole}
use Rattle.queue.proofs.Sifts.{ranks}
use Rattle.queue.proofs.Queue.pop.Goals as goal

pub returns-clause-after : goal.returns-clause-after
returns-clause-after g c =
    let es = c.args.self.now.entries.now in
    let k = c.args.self.now.count in
    let n = c.in_ok-n.n in
    let is : k ≡ n + 1 = omega (arith, c.in_ok-n.ensures) in
    let within = c.args.self.now.within in
    let e = c.swap.ensures in
    let r = read_whole es c.index-self-0.result c.index-self-0-2.result (omega arith) in
    record { count = is; takes = popped es c.swap.new.self c.sift_down.new.s (drop (n - 0) c.swap.new.self) k n (n - 0) _ is (omega arith) (omega arith) r e.by_index.3 e.len c.sift_down.ensures.shuffled }

pub returns-clause-first : goal.returns-clause-first
returns-clause-first g c =
    let es = c.args.self.now.entries.now in
    let k = c.args.self.now.count in
    let below = g.R.PriceRule.below in
    let is : k ≡ c.in_ok-n.n + 1 = omega (arith, c.in_ok-n.ensures) in
    let within = c.args.self.now.within in
    top_first below (ranks below g.met.R.PriceRule.order) es k _ (omega arith) (read_whole es c.index-self-0.result c.index-self-0-2.result (omega arith))

pub returns-clause-order : goal.returns-clause-order
returns-clause-order g c =
    let es = c.args.self.now.entries.now in
    let k = c.args.self.now.count in
    let n = c.in_ok-n.n in
    let is : k ≡ n + 1 = omega (arith, c.in_ok-n.ensures) in
    let within = c.args.self.now.within in
    let e = c.swap.ensures in
    let f = c.sift_down.ensures in
    pop_order g.R.PriceRule.below es c.swap.new.self c.sift_down.new.s _ k n (n - 0) is (omega arith) (omega arith) e.len (e.by_index.0, e.by_index.1, e.by_index.2) f.shuffled f.order
