-- A name is ill formed, known, without a row, or new.
use Rattle.std.proofs.Common.{refl, arith}
use Rattle.book.specs.Held.{contents}
use Rattle.book.proofs.Whole.{sound_of}
use Rattle.book.proofs.Booked.{kept_of, told}
use Rattle.book.proofs.Named.{answers_known, answers_full, answers_new, sound_named, laid_named}
use Rattle.book.proofs.book.Book.name.Goals as goal

pub returns-in-Some-clause-answer : goal.returns-in-Some-clause-answer
returns-in-Some-clause-answer c =
    let s = contents c.args.self.now.table in
    answers_known s (sound_of s c.args.self.now.holds) c.padded-title.result c.args.bytes.now (c.if-not-is_name.ensures.0 refl) c.padded-title.ensures
    c.in-Some.i c.in-Some.ensures

pub returns-then-n-usable-clause-answer : goal.returns-then-n-usable-clause-answer
returns-then-n-usable-clause-answer c =
    let s = contents c.args.self.now.table in
    answers_full s (sound_of s c.args.self.now.holds) c.padded-title.result c.args.bytes.now (c.if-not-is_name.ensures.0 refl) c.padded-title.ensures
    c.in_default.ensures (omega (arith, c.usable.ensures)) _ (told c.into-then-n-usable.ensures)

pub invariant_of-self : goal.invariant_of-self
invariant_of-self c =
    let s = contents c.args.self.now.table in
    record {
      holds = ∣ kept_of _ (sound_named s (sound_of s c.args.self.now.holds) c.padded-title.result c.args.bytes.now (c.if-not-is_name.ensures.0 refl) c.padded-title.ensures
          c.in_default.ensures (omega (arith, c.usable.ensures))) ∣₁;
    }

pub returns-clause-answer : goal.returns-clause-answer
returns-clause-answer c =
    let s = contents c.args.self.now.table in
    answers_new s (sound_of s c.args.self.now.holds) c.padded-title.result c.args.bytes.now (c.if-not-is_name.ensures.0 refl) c.padded-title.ensures
    c.in_default.ensures (omega (arith, c.usable.ensures))

pub returns-clause-laid : goal.returns-clause-laid
returns-clause-laid c =
    let s = contents c.args.self.now.table in
    laid_named s (sound_of s c.args.self.now.holds) c.padded-title.result c.args.bytes.now (c.if-not-is_name.ensures.0 refl) c.padded-title.ensures
    c.in_default.ensures (omega (arith, c.usable.ensures))
