-- The search for the value that a word names.
use Rattle.std.proofs.Common.{◌≡◌, ◌≢◌, ℕ, ◌<◌, List, length, Contains, MatchOption, Option, Some, None, Bor, subst, arith}
use Rattle.std.specs.List.{AllWithin, HoldsAt}
use Rattle.std.specs.Option.{option_copied}

module _ {V : Type 0} (bytes : List ℕ) (spelling : V → List ℕ) (values : List V) where
  -- the first of the values that has the word was found, or none of them has it
  abbrev pub Found : Option (Bor V) → Type 0
  Found r =
      MatchOption r (AllWithin (λ v. bytes ≢ spelling v) values 0 (length values))
      (λ x. (bytes ≡ spelling x.now) × (i : ℕ) × (i < length values) × HoldsAt (λ v. v ≡ x.now) values i × AllWithin (λ v. bytes ≢ spelling v) values 0 i)

  -- where the values are all that there are, no other has it
  pub named_by : ((v : V) → Contains values v) → (r : Option (Bor V)) → Found r
      → MatchOption (option_copied r) ((v : V) → bytes ≢ spelling v) (λ v. bytes ≡ spelling v)
  named_by complete (Some x) found = found.0
  named_by complete None none = λ v.
      let at = complete v in
      let P : V → Type 0 = λ w. bytes ≢ spelling w in
      subst P at.2 (none at.0 v (omega arith) at.1)
