-- A node is unknown, there is no row, or the equation is accepted.
use Rattle.std.proofs.Common.{◌-◌, arith}
use Rattle.book.specs.Held.{contents}
use Rattle.book.proofs.Whole.{sound_of}
use Rattle.book.proofs.Booked.{kept_of}
use Rattle.book.proofs.Accepted.{accept_tidy, accept_based, accept_level, accepted_unpriced_front, answers_new, sound_accepted, laid_accepted}
use Rattle.book.proofs.book.Book.equate.Goals as goal

pub accept-requires-clause-tidy : goal.accept-requires-clause-tidy
accept-requires-clause-tidy c =
    let s = contents c.args.self.now.table in
    accept_tidy s (sound_of s c.args.self.now.holds) c.args.a.0 c.args.b.0 (omega arith) (omega arith) (omega (arith, c.usable.ensures)) (s.nodes - 0) (omega arith)

pub accept-requires-clause-based : goal.accept-requires-clause-based
accept-requires-clause-based c =
    let s = contents c.args.self.now.table in
    accept_based s (sound_of s c.args.self.now.holds) c.args.a.0 c.args.b.0 (omega arith) (omega arith) (omega (arith, c.usable.ensures)) (s.nodes - 0) (omega arith)

pub accept-requires-clause-level : goal.accept-requires-clause-level
accept-requires-clause-level c =
    let s = contents c.args.self.now.table in
    accept_level s (sound_of s c.args.self.now.holds) c.args.a.0 c.args.b.0 (omega arith) (omega arith) (omega (arith, c.usable.ensures)) (s.nodes - 0) (omega arith)

pub unprice-requires : goal.unprice-requires
unprice-requires c =
    let s = contents c.args.self.now.table in
    accepted_unpriced_front s (sound_of s c.args.self.now.holds) c.args.a.0 c.args.b.0 (omega arith) (omega arith) (omega (arith, c.usable.ensures)) (s.nodes - 0) (omega arith) _ c.accept.ensures

pub invariant_of-self : goal.invariant_of-self
invariant_of-self c =
    let s = contents c.args.self.now.table in
    record { holds = ∣ kept_of _ (sound_accepted s (sound_of s c.args.self.now.holds) c.args.a.0 c.args.b.0 (omega arith) (omega arith) (omega (arith, c.usable.ensures)) (s.nodes - 0) (omega arith) _ c.accept.ensures _ c.unprice.ensures) ∣₁ }

pub returns-clause-answer : goal.returns-clause-answer
returns-clause-answer c =
    let s = contents c.args.self.now.table in
    answers_new s (sound_of s c.args.self.now.holds) c.args.a.0 c.args.b.0 (omega arith) (omega arith) (omega (arith, c.usable.ensures)) (s.nodes - 0) (omega arith) _ c.accept.ensures _ c.unprice.ensures

pub returns-clause-laid : goal.returns-clause-laid
returns-clause-laid c =
    let s = contents c.args.self.now.table in
    laid_accepted s (sound_of s c.args.self.now.holds) c.args.a.0 c.args.b.0 (omega arith) (omega arith) (omega (arith, c.usable.ensures)) (s.nodes - 0) (omega arith) _ c.accept.ensures _ c.unprice.ensures
