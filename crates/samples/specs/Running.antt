-- Calls one after the other, and how many are granted. Cited by the contracts of the fillings.
--
-- | word  | meaning                                                                                             |
-- |-------|-----------------------------------------------------------------------------------------------------|
-- | Gives | what a closure says of a call, as a relation of the value before, the answer and the value after   |
-- | Run   | the calls 0 to n - 1, each from where the one before ends; g of them are granted                    |
use Rattle.std.specs.Prelude.{◌≡◌, ℕ, ◌+◌, Bool, cond}
use Rattle.std.specs.Borrow.{MutBor}

-- a call of a closure on the value behind a reference, by what the closure says of references
pub record Gives {A : Type 0} (post : MutBor A → ℕ → Bool → MutBor A → Type 0) (i : ℕ) (x : A) (ok : Bool) (y : A) : Type 0 where
  pub before : MutBor A
  pub after : MutBor A
  pub met : post before i ok after
  pub old : before.now ≡ x
  pub new : after.now ≡ y

pub data Run {A : Type 0} (call : ℕ → A → Bool → A → Type 0) (s : A) : ℕ → ℕ → A → Type 0 where
  none : (n g : ℕ) (t : A) → n ≡ 0 → g ≡ 0 → t ≡ s → Run call s n g t
  more : (n g : ℕ) (t : A) (k h : ℕ) (m : A) (ok : Bool) → Run call s k h m → call k m ok t → n ≡ k + 1 → g ≡ cond ok (h + 1) h
      → Run call s n g t
