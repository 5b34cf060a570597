-- The classes are joined and closed.
use Rattle.std.proofs.Common.{rules, ℕ, false, replicate, length, sym, subst, arith}
use lib.ListN.{length-replicate}
use Rattle.book.specs.Closing.{Waits, Level, Turned}
use Rattle.book.proofs.Sweeps.{joined_waits, accepted_of, accepted_as}
use Rattle.book.proofs.Merging.{joined_step}
use Rattle.book.proofs.closing.accept.Goals as goal

pub close-requires : goal.close-requires
close-requires c =
    let r = c.requires in
    let xs = c.args.rows.now in
    let ys = c.join.new.self.rows.now in
    let J = c.join.ensures.joined in
    let S = joined_step xs ys (replicate 1024 false) c.join.new.self.dirty (length xs) c.args.a c.args.b (omega arith) r.tidy r.based r.inside.0 r.inside.1 J in
    subst (λ (k : ℕ). Waits ys k c.join.new.self.dirty) (sym S.only.long)
    (joined_waits xs ys (replicate 1024 false) c.join.new.self.dirty (length xs) c.args.a c.args.b (omega arith) (omega (arith, r.few, length-replicate 1024 false))
    r.tidy r.based r.inside.0 r.inside.1 J r.level)

pub returns : goal.returns
returns c =
    let r = c.requires in
    let xs = c.args.rows.now in
    let ys = c.join.new.self.rows.now in
    let zs = c.close.new.self.rows.now in
    let J = c.join.ensures.joined in
    let S = joined_step xs ys (replicate 1024 false) c.join.new.self.dirty (length xs) c.args.a c.args.b (omega arith) r.tidy r.based r.inside.0 r.inside.1 J in
    let T = subst (λ (k : ℕ). Turned k ys zs c.join.new.self.dirty c.close.new.self.dirty) S.only.long c.close.ensures.turned in
    let L = subst (λ (k : ℕ). Level zs k) S.only.long c.close.ensures.level in
    accepted_as xs _ zs (length xs) c.args.a c.args.b (search (rules, c.join.ensures.lent, c.close.ensures.lent))
    (accepted_of xs ys zs (replicate 1024 false) c.join.new.self.dirty c.close.new.self.dirty (length xs) c.args.a c.args.b (omega arith) r.tidy r.based r.inside.0 r.inside.1 J T L)
