-- How large a number of so many digits can be, and the step of reading one more digit.
use Rattle.std.proofs.Common.{◌≡◌, ℕ, zero, suc, ◌+◌, ◌-◌, ◌*◌, ◌<◌, ◌≤◌, true, List, length, get_or, drop, sym, ap, ◌∙◌, add-one, arith}
use Rattle.std.proofs.lemmas.List.{at_drop_more}
use Rattle.std.proofs.lemmas.Bool.Decides.{nat_tests}
use Rattle.theory.specs.Names.{digit}
use Rattle.records.specs.Numbers.{value, value_on}

-- the first number that has more than n digits
abbrev pub below_digits : ℕ → ℕ
below_digits zero = 1
below_digits (suc n) = 10 * below_digits n

pub few_digits : (n : ℕ) → n ≤ 4 → below_digits n ≤ 10000
few_digits zero h = omega arith
few_digits (suc zero) h = omega arith
few_digits (suc (suc zero)) h = omega arith
few_digits (suc (suc (suc zero))) h = omega arith
few_digits (suc (suc (suc (suc zero)))) h = omega arith
few_digits (suc (suc (suc (suc (suc n))))) h = omega arith

pub one_more_digit : (n : ℕ) → below_digits (n + 1) ≡ 10 * below_digits n
one_more_digit n = ap below_digits (add-one n)

digit_range : (b : ℕ) → digit b ≡ true → b - 48 ≤ 9
digit_range b = grind (arith, nat_tests)

pub digit_most : (xs : List ℕ) (i : ℕ) → digit (get_or xs i 0) ≡ true → get_or xs i 0 - 48 ≤ 9
digit_most xs i h = digit_range (get_or xs i 0) h

-- the next digit joins the total
pub value_step : (xs : List ℕ) (i total : ℕ) → i < length xs → value_on total (drop i xs) ≡ value xs
    → value_on (total * 10 + (get_or xs i 0 - 48)) (drop (i + 1) xs) ≡ value xs
value_step xs i total h e = sym (at_drop_more (value_on total) xs i 0 h) ∙ e
