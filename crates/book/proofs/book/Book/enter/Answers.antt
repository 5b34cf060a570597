-- A symbol or a part is unknown, the node is known, there is no row, or the node is new.
use Rattle.std.proofs.Common.{◌+◌, ◌-◌, refl, arith}
use Rattle.book.specs.Held.{contents}
use Rattle.book.proofs.Whole.{sound_of}
use Rattle.book.proofs.Booked.{kept_of, told}
use Rattle.book.proofs.Entered.{answers_known, answers_full, put_tidy, put_based, put_unpriced_front, answers_new, sound_entered, laid_entered}
use Rattle.book.proofs.book.Book.enter.Goals as goal

pub returns-in-Some-clause-answer : goal.returns-in-Some-clause-answer
returns-in-Some-clause-answer c =
    let s = contents c.args.self.now.table in
    answers_known s (sound_of s c.args.self.now.holds) c.args.symbol.0 c.args.parts c.wanted-node.result (omega arith) (c.if-not-within.ensures.0 refl)
    c.wanted-node.ensures c.in-Some.i c.in-Some.ensures

pub returns-then-n-usable-clause-answer : goal.returns-then-n-usable-clause-answer
returns-then-n-usable-clause-answer c =
    let s = contents c.args.self.now.table in
    answers_full s (sound_of s c.args.self.now.holds) c.args.symbol.0 c.args.parts c.wanted-node.result (omega arith) (c.if-not-within.ensures.0 refl)
    c.wanted-node.ensures c.in_default.ensures (omega (arith, c.usable.ensures)) _ (told c.into-then-n-usable.ensures)

pub put-requires-clause-tidy : goal.put-requires-clause-tidy
put-requires-clause-tidy c =
    let s = contents c.args.self.now.table in
    put_tidy s (sound_of s c.args.self.now.holds) c.args.symbol.0 c.args.parts c.wanted-node.result (omega arith) (c.if-not-within.ensures.0 refl)
    c.wanted-node.ensures c.in_default.ensures (omega (arith, c.usable.ensures)) _ (omega arith)

pub put-requires-clause-based : goal.put-requires-clause-based
put-requires-clause-based c =
    let s = contents c.args.self.now.table in
    put_based s (sound_of s c.args.self.now.holds) c.args.symbol.0 c.args.parts c.wanted-node.result (omega arith) (c.if-not-within.ensures.0 refl)
    c.wanted-node.ensures c.in_default.ensures (omega (arith, c.usable.ensures)) _ (omega arith)

pub unprice-requires : goal.unprice-requires
unprice-requires c =
    let s = contents c.args.self.now.table in
    put_unpriced_front s (sound_of s c.args.self.now.holds) c.args.symbol.0 c.args.parts c.wanted-node.result (omega arith) (c.if-not-within.ensures.0 refl)
    c.wanted-node.ensures c.in_default.ensures (omega (arith, c.usable.ensures)) _ (omega arith) _ c.put.ensures

pub invariant_of-self : goal.invariant_of-self
invariant_of-self c =
    let s = contents c.args.self.now.table in
    record {
      holds = ∣ kept_of _ (sound_entered s (sound_of s c.args.self.now.holds) c.args.symbol.0 c.args.parts c.wanted-node.result (omega arith) (c.if-not-within.ensures.0 refl)
          c.wanted-node.ensures c.in_default.ensures (omega (arith, c.usable.ensures)) ((s.nodes + 1) - 0) (omega arith) _ c.put.ensures _ c.unprice.ensures) ∣₁;
    }

pub returns-clause-answer : goal.returns-clause-answer
returns-clause-answer c =
    let s = contents c.args.self.now.table in
    answers_new s (sound_of s c.args.self.now.holds) c.args.symbol.0 c.args.parts c.wanted-node.result (omega arith) (c.if-not-within.ensures.0 refl)
    c.wanted-node.ensures c.in_default.ensures (omega (arith, c.usable.ensures)) ((s.nodes + 1) - 0) (omega arith) _ c.put.ensures _ c.unprice.ensures

pub returns-clause-laid : goal.returns-clause-laid
returns-clause-laid c =
    let s = contents c.args.self.now.table in
    laid_entered s (sound_of s c.args.self.now.holds) c.args.symbol.0 c.args.parts c.wanted-node.result (omega arith) (c.if-not-within.ensures.0 refl)
    c.wanted-node.ensures c.in_default.ensures (omega (arith, c.usable.ensures)) ((s.nodes + 1) - 0) (omega arith) _ c.put.ensures _ c.unprice.ensures
