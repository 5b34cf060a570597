-- Each turn marks a class that is reached; when none is left to mark, all that are reached are marked.
use Rattle.std.proofs.Common.{rules, ℕ, ◌≡◌, ◌<◌, List, length, replicate, set, length-set, ◌∙◌, ap, arith}
use Rattle.theory.specs.Books.{class}
use Rattle.listing.specs.Nodes.{state_in}
use Rattle.listing.proofs.Nodes.{nodes_in}
use Rattle.listing.proofs.Marks.{still_marked, fewer, only_missed, all_reached, first_mark}
use Rattle.listing.proofs.mark.mark.Goals as goal

-- the class found is a byte's place
within : (c : goal.In-Some) → c.in-Some.k < length c.loop-k.bytes
within c =
    let z = nodes_in c.args.nodes.rows.now in
    let h = c.in-Some.ensures.misses.here in
    let e : length c.fill.new.self ≡ length c.args.bytes.now = c.fill.ensures.len in
    omega (arith, length-set c.fill.new.self c.from.result 1, c.loop-k.auto.bytes)

pub loop-k-init : goal.loop-k-init
loop-k-init c =
    let n = c.args.node in
    let size = length c.args.bytes.now in
    let low = (c.args.nodes.based n c.requires.here).0 in
    let e : c.fill.new.self ≡ replicate size 0 = search rules in
    let h = first_mark c.args.nodes.rows.now n size (set c.fill.new.self c.from.result 1) (omega arith) (ap (λ (l : List ℕ). set l c.from.result 1) e ∙ ap (λ (k : ℕ). set (replicate size 0) k 1) c.from.ensures) in
    record { reached = h.0; own = h.1 }

pub loop-k-smaller : goal.loop-k-smaller
loop-k-smaller c = fewer c.loop-k.bytes c.in-Some.k (within c) c.in-Some.ensures.misses.unmarked

pub loop-k-preserved : goal.loop-k-preserved
loop-k-preserved c =
    let s = state_in c.args.nodes.rows.now in
    let I = c.loop-k.invariant in
    record {
      reached = only_missed s c.args.node c.loop-k.bytes c.in-Some.k I.reached c.in-Some.ensures;
      own = still_marked c.loop-k.bytes c.in-Some.k (within c) (class s c.args.node) I.own;
    }

pub returns : goal.returns
returns c =
    let I = c.loop-k.invariant in
    record {
      sound = I.reached;
      complete = all_reached (state_in c.args.nodes.rows.now) c.args.node c.loop-k.bytes c.in_default.ensures I.own;
    }
