-- Two nodes are equal exactly if they are of one class.
use Rattle.std.proofs.Common.{ℕ, nat_eq, sym, subst₂}
use Rattle.theory.specs.Calls.{granted, Sameness}
use Rattle.book.specs.Layout.{state_of}
use Rattle.book.specs.Held.{contents}
use Rattle.book.proofs.Whole.{sound_of}
use Rattle.book.proofs.Equals.{sameness}
use Rattle.book.proofs.book.Book.same.Goals as goal

pub returns : goal.returns
returns c =
    let s = contents c.args.self.now.table in
    let f = c.in_ok-class_of.ensures in
    let g = c.in_ok-class_of-2.ensures in
    record {
      answer = subst₂ (λ (x y : ℕ). Sameness (state_of s) c.args.a.0 c.args.b.0 (granted (nat_eq x y)) (state_of s)) (sym f.1) (sym g.1)
          (sameness s (sound_of s c.args.self.now.holds) c.args.a.0 c.args.b.0 f.0 g.0);
    }
