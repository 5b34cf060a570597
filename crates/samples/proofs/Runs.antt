-- Calls one after the other: no more are granted than are made, and what each call keeps stays; a run seen through a function is a run.
use Rattle.std.proofs.Common.{◌≡◌, ℕ, ◌≤◌, Bool, true, false, arith, ◌∙◌, ap}
use Rattle.samples.specs.Running.{Run, none, more}

pub Run-within : {A : Type 0} (call : ℕ → A → Bool → A → Type 0) (s : A) (n g : ℕ) (t : A) → Run call s n g t → g ≤ n
Run-within call s n g t (none _ _ _ z e _) = omega arith
Run-within call s n g t (more _ _ _ k h m true r c e f) = let w = Run-within call s k h m r in omega arith
Run-within call s n g t (more _ _ _ k h m false r c e f) = let w = Run-within call s k h m r in omega arith

-- a run seen through f, where each call is
pub Run-map : {A B : Type 0} (f : A → B) (call : ℕ → A → Bool → A → Type 0) (told : ℕ → B → Bool → B → Type 0)
    (each : (i : ℕ) (x : A) (ok : Bool) (y : A) → call i x ok y → told i (f x) ok (f y))
    (s : A) (n g : ℕ) (t : A) → Run call s n g t → Run told (f s) n g (f t)
Run-map f call told each s n g t (none _ _ _ z e w) = none _ _ _ z e (ap f w)
Run-map f call told each s n g t (more _ _ _ k h m ok r c e w) = more _ _ _ k h (f m) ok (Run-map f call told each s k h m r) (each k m ok t c) e w

-- what each call keeps stays
pub Run-keeps : {A B : Type 0} (f : A → B) (call : ℕ → A → Bool → A → Type 0)
    (each : (i : ℕ) (x : A) (ok : Bool) (y : A) → call i x ok y → f y ≡ f x)
    (s : A) (n g : ℕ) (t : A) → Run call s n g t → f t ≡ f s
Run-keeps f call each s n g t (none _ _ _ z e w) = ap f w
Run-keeps f call each s n g t (more _ _ _ k h m ok r c e w) = each k m ok t c ∙ Run-keeps f call each s k h m r
