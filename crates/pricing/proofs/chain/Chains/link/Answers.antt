use Rattle.std.proofs.Common.{get_or, sym, ◌∙◌, arith, length-set}
use Rattle.pricing.specs.Nodes.{links}
use Rattle.pricing.specs.Chains.{key}
use Rattle.pricing.proofs.Chains.{unlinked, link_is, clear_past, linked_none, linked_past, linked_next}
use Rattle.pricing.proofs.chain.Chains.link.Goals as goal
use Rattle.pricing.proofs.chain.Chains.link.Goals.{in-Some, in_default}

pub loop-i-init : goal.loop-i-init
loop-i-init c =
    let xs = c.args.self.now in
    record {
      linked = linked_none (key c.args.side c.args.nodes.rows.now) (links xs.first) (links xs.next) c.requires.first;
      clear = λ j h. c.requires.next j;
      wide = c.requires.wide.0;
      long = c.requires.wide.1;
    }

pub loop-i-preserved : goal.loop-i-preserved
loop-i-preserved c =
    let l = c.loop-i in
    let I = l.invariant in
    let few = c.args.nodes.few in
    let kind = key c.args.side c.args.nodes.rows.now in
    elim c.match-part_class.branch [
      | in-Some w ↦
          let u = w.in-Some.ensures in
          let k = w.in-Some.k in
          rw w.self-is (record {
            linked = linked_next l.i k kind l.self.first l.self.next w.to.result (get_or l.self.first k unlinked) I.linked (sym u.value)
                (omega arith) (omega arith) w.to.ensures (link_is l.self.first k);
            clear = λ j h. clear_past l.self.next l.i j (get_or l.self.first k unlinked) (omega arith) (I.clear j (omega arith));
            wide = length-set l.self.first k _ ∙ I.wide;
            long = length-set l.self.next l.i _ ∙ I.long;
          })
      | in_default w ↦
          rw w.self-is (record {
            linked = linked_past l.i kind (links l.self.first) (links l.self.next) I.linked (sym w.in_default.ensures.value) (I.clear l.i (omega arith));
            clear = λ j h. I.clear j (omega arith);
            wide = I.wide;
            long = I.long;
          })
    ]
