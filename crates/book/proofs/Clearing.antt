-- A fresh book is a book.
use Rattle.std.proofs.Common.{min, false, List, length, sym, ap, true≢false, arith}
use Rattle.book.specs.declared.row.Row.{Row}
use Rattle.book.specs.Invariant.{Sound}
use Rattle.book.specs.Changes.{Cleared}

pub sound_fresh : (xs ys : List Row) → Cleared xs ys (min (length xs) 1024) → Sound (record { rows = ys; names = 0; nodes = 0; equations = 0; priced = false })
sound_fresh xs ys C =
    record {
      names_fit = (omega arith, omega arith);
      nodes_fit = (omega arith, omega arith);
      equations_fit = (omega arith, omega arith);
      tidy = λ i h. absurd (omega arith);
      spelt = λ i h. absurd (omega arith);
      named = λ i j h l e. absurd (omega arith);
      known = λ i h. absurd (omega arith);
      distinct = λ i j h l e. absurd (omega arith);
      based = λ i h. absurd (omega arith);
      level = λ i j h l e. absurd (omega arith);
      obeys = λ k h. absurd (omega arith);
      follows = λ i j h l e. absurd (omega arith);
      blank = λ i h l.
          let b = C.within i (omega (arith, C.long)) in
          (λ q. ap (λ (r : Row). r.name) b, λ q. ap (λ (r : Row). r.node) b, λ q. ap (λ (r : Row). r.equation) b);
      unpriced = λ e i h. absurd (omega arith);
      priced = λ e i h. absurd (true≢false (sym e));
    }
