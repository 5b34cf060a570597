-- What is true of the place that `position` gives.
use Rattle.std.proofs.Common.{◌≡◌, ℕ, suc, ◌<◌, Bool, List, ◌∷◌, length, suc-le-suc, arith}
use Rattle.std.specs.Prelude.{Some, None, position}
use Rattle.std.specs.List.{position_or_len}
use Rattle.std.proofs.lemmas.Bool.Decides.{nat_tests}
use Rattle.std.proofs.lemmas.List.Sums.{fails_before_first}
use Rattle.std.proofs.lemmas.List.Quantifiers.{position-Some}
use Rattle.price.specs.Finding.{NotBefore, Nowhere, FirstAt}

module _ {X : Type 0} (test : X → Bool) where
  inside : (xs : List X) (i : ℕ) → position test xs ≡ Some i → i < length xs
  inside xs i e = grind (arith, nat_tests)

  pub first_at : (xs : List X) (i : ℕ) → position test xs ≡ Some i → FirstAt test xs i
  first_at xs i e = record {
    within = inside xs i e;
    before = λ k d. (position-Some test xs i d e).2 k;
    here = λ d. (position-Some test xs i d e).1;
  }

  pub nowhere : (xs : List X) → position test xs ≡ None → Nowhere test xs
  nowhere xs e = λ k d h. fails_before_first test xs k d (past xs e k h)
    where
      past : (xs : List X) → position test xs ≡ None → (k : ℕ) → k < length xs → k < position_or_len test xs
      past xs e k h = grind (arith, nat_tests)

  pub tail : (x : X) (xs : List X) (i : ℕ) → NotBefore test (x ∷ xs) (suc i) → NotBefore test xs i
  tail x xs i none = λ k d lt. none (suc k) d (suc-le-suc lt)
