-- What a search among the first rows finds.
use Rattle.std.proofs.Common.{◌≡◌, ℕ, ◌<◌, ◌≤◌, Bool, true, false, get_or, cond, nat_lt, length, take, List, Some, None, position, sym, ap, ◌∙◌, true≢false, arith}
use mathlib.Core.Bool.{not}
use Rattle.std.proofs.lemmas.Bool.{not-true}
use Rattle.std.specs.List.{position_or_len}
use Rattle.std.proofs.lemmas.Bool.Decides.{nat_tests}
use Rattle.std.proofs.lemmas.List.Sums.{prefix_len_passes}
use Rattle.std.proofs.lemmas.List.{length-take-le, get_or-take}
use Rattle.std.proofs.lemmas.List.Quantifiers.{position-Some}
use Rattle.book.specs.declared.row.Row.{Row}
use Rattle.book.specs.Rows.{row, absent}

-- no place is given only where there is none
none_past : (m n : ℕ) → None ≡ cond (nat_lt m n) (Some m) None → n ≤ m
none_past m n e = grind (arith, nat_tests)

-- where none is found, none passes
pub passed_by : {A : Type 0} (p : A → Bool) (xs : List A) → None ≡ position p xs → (i : ℕ) (d : A) → i < length xs → p (get_or xs i d) ≡ false
passed_by p xs e i d h =
    let m : length xs ≤ position_or_len p xs = none_past (position_or_len p xs) (length xs) e in
    not-true (p (get_or xs i d)) (prefix_len_passes (λ x. not (p x)) xs i d (omega arith))

module _ (p : Row → Bool) (rows : List Row) (n : ℕ) (fit : n ≤ length rows) where
  pub found_at : (i : ℕ) → Some i ≡ position p (take n rows) → (i < n) × (p (row rows i) ≡ true)
  found_at i e =
      let f = position-Some p (take n rows) i absent (sym e) in
      let l : i < n = omega (arith, f.0, length-take-le n rows fit) in
      (l, ap p (sym (get_or-take n rows i absent l)) ∙ f.1)

  pub found_none : None ≡ position p (take n rows) → (i : ℕ) → i < n → p (row rows i) ≡ true → ⊥
  found_none e i l q =
      let z = length-take-le n rows fit in
      true≢false (sym q ∙ ap p (sym (get_or-take n rows i absent l)) ∙ passed_by p (take n rows) e i absent (omega arith))
