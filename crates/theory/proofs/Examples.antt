-- The worked examples of equality: those that are equal by the rules, the others by numbers for builds at which the equations hold.
use Rattle.std.proofs.Common.{◌≡◌, ℕ, zero, suc, ◌⊎◌, List, [], ◌∷◌, get_or, sym, refl, ap, ◌∙◌, ap₂, inl, inr, arith}
use mathlib.Core.Bool.{false≢true}
use mathlib.Core.List.Memᴰ
use mathlib.Core.List.{Memᴰ}
use Rattle.theory.specs.Names.{Name}
use Rattle.theory.specs.Builds.{Build, alone, one, two}
use Rattle.theory.specs.Equality.{Equation, Equal, given, same, turned, joined, in_one, in_two}
use Rattle.theory.specs.Examples.{Examples, a, s1, s2, tower}

-- numbers for builds
module _ (f : Name → ℕ) (g : Name → ℕ → ℕ) (h : Name → ℕ → ℕ → ℕ) where
  abbrev worth : Build → ℕ
  worth (alone x) = f x
  worth (one x u) = g x (worth u)
  worth (two x u v) = h x (worth u) (worth v)

  abbrev Hold : List Equation → Type 0
  Hold [] = Unit {0}
  Hold (e ∷ es) = (worth e.0 ≡ worth e.1) × Hold es

  at : (es : List Equation) → Hold es → (e : Equation) → Memᴰ e es → worth e.0 ≡ worth e.1
  at [] H e m = absurd (Memᴰ.not-nil m)
  at (x ∷ es) H e m = go (Memᴰ.cases_cons m) (at es H.1 e)
    where
      go : (e ≡ x) ⊎ Memᴰ e es → (Memᴰ e es → worth e.0 ≡ worth e.1) → worth e.0 ≡ worth e.1
      go (inl q) ih = ap (λ (y : Equation). worth y.0) q ∙ H.0 ∙ sym (ap (λ (y : Equation). worth y.1) q)
      go (inr q) ih = ih q

  -- equal builds have the same number
  worth_equal : (es : List Equation) → Hold es → {u v : Build} → Equal es u v → worth u ≡ worth v
  worth_equal es H {u} {v} (given m) = at es H (u, v) m
  worth_equal es H same = refl
  worth_equal es H (turned q) = sym (worth_equal es H q)
  worth_equal es H (joined q r) = worth_equal es H q ∙ worth_equal es H r
  worth_equal es H (in_one {x} q) = ap (g x) (worth_equal es H q)
  worth_equal es H (in_two {x} q r) = ap₂ (h x) (worth_equal es H q) (worth_equal es H r)

-- 0, 1, 2, and 0 again
abbrev next : ℕ → ℕ
next zero = 1
next (suc zero) = 2
next (suc (suc n)) = 0

fifth : Equal ((tower 3, a) ∷ (tower 5, a) ∷ []) (tower 1) a
fifth =
    let three : Equal ((tower 3, a) ∷ (tower 5, a) ∷ []) (tower 3) a = given (Memᴰ.head refl) in
    let five : Equal ((tower 3, a) ∷ (tower 5, a) ∷ []) (tower 5) a = given (Memᴰ.tail (Memᴰ.head refl)) in
    let second : Equal ((tower 3, a) ∷ (tower 5, a) ∷ []) a (tower 2) = joined (turned five) (in_two (in_two three same) same) in
    joined (in_two second same) three

pub stand : Examples
stand = (
  (λ _. joined (in_two (turned (given (Memᴰ.head refl))) same) (turned (given (Memᴰ.head refl))), λ _. refl),
  (
    (λ e. absurd (false≢true e), λ q. absurd (let z = worth_equal (λ _. 0) (λ _ n. n) (λ _ n _. next n) ((tower 3, a) ∷ []) (refl, tt) q in omega arith)),
    (
      (λ _. fifth, λ _. refl),
      (
        (λ e. absurd (false≢true e), λ q. absurd (let z = worth_equal (λ _. 0) (λ x _. get_or x 1 0) (λ _ n _. n) ((s1, s2) ∷ []) (refl, tt) q in omega arith)),
        (
          (λ e. absurd (false≢true e), λ q. absurd (let z = worth_equal (λ _. 0) (λ _ _. 1) (λ _ _ _. 2) [] tt q in omega arith)),
          ((λ _. in_two (given (Memᴰ.head refl)) same, λ _. refl), tt),
        ),
      ),
    ),
  ),
)
