-- The build of a node is its shape over the builds of its parts.
use Rattle.std.proofs.Common.{◌≡◌, ℕ, zero, suc, ◌+◌, ◌<◌, List, [], ◌∷◌, ◌++◌, length, get_or, sym, refl, ap, ◌∙◌, subst, ap₂, not-suc-le-zero, zero-add, arith, length-append}
use lib.ListN.{get_or-append}
use lib.Seq.{get_or_at}
use Rattle.theory.specs.Builds.{Build, one, two}
use Rattle.theory.specs.Tables.{Shape, atom, unary, binary, Table, shape_at, EachPart, build_over, no_build, builds, build_at}

-- what holds of each part, from what holds of each part
pub each_map : (P Q : ℕ → Type 0) → ((p : ℕ) → P p → Q p) → (x : Shape) → EachPart P x → EachPart Q x
each_map P Q f (atom s) e = tt
each_map P Q f (unary s p) e = f p e
each_map P Q f (binary s p q) e = (f p e.0, f q e.1)

pub each_both : (P Q R : ℕ → Type 0) → ((p : ℕ) → P p → Q p → R p) → (x : Shape) → EachPart P x → EachPart Q x → EachPart R x
each_both P Q R f (atom s) a b = tt
each_both P Q R f (unary s p) a b = f p a b
each_both P Q R f (binary s p q) a b = (f p a.0 b.0, f q a.1 b.1)

-- one shape over the same builds
pub build_over_same : (f g : ℕ → Build) (x : Shape) → EachPart (λ p. f p ≡ g p) x → build_over f x ≡ build_over g x
build_over_same f g (atom s) e = refl
build_over_same f g (unary s p) e = ap (one s) e
build_over_same f g (binary s p q) e = ap₂ (two s) e.0 e.1

-- the build of the next node, and the builds up to it
abbrev next : List Build → Shape → Build
next done x = build_over (λ p. get_or done p no_build) x

abbrev more : List Build → Shape → List Build
more done x = done ++ (build_over (λ p. get_or done p no_build) x ∷ [])

more_length : (done : List Build) (x : Shape) → length (more done x) ≡ suc (length done)
more_length done x = length-append done (next done x ∷ []) ∙ omega arith

-- the builds so far stay
pub kept : (xs : Table) (done : List Build) (i : ℕ) → i < length done → get_or (builds xs done) i no_build ≡ get_or done i no_build
kept [] done i h = refl
kept (x ∷ xs) done i h =
    kept xs (more done x) i (omega (arith, more_length done x)) ∙ get_or-append done (next done x ∷ []) no_build i h

-- the build of the k-th node from here on
at : (xs : Table) (done : List Build) (k : ℕ) → k < length xs → EachPart (λ p. p < length done + k) (shape_at xs k)
    → get_or (builds xs done) (length done + k) no_build ≡ build_over (λ p. get_or (builds xs done) p no_build) (shape_at xs k)
at [] done k h l = absurd (not-suc-le-zero h)
at (x ∷ xs) done zero h l =
    kept xs (more done x) (length done + 0) (omega (arith, more_length done x))
    ∙ get_or_at done (next done x) [] no_build (length done + 0) (omega arith)
    ∙ build_over_same (λ p. get_or done p no_build) (λ p. get_or (builds xs (more done x)) p no_build) x
    (each_map (λ p. p < length done + 0) (λ p. get_or done p no_build ≡ get_or (builds xs (more done x)) p no_build)
    (λ p m. sym (kept (x ∷ xs) done p (omega arith))) x l)
at (x ∷ xs) done (suc k) h l =
    let e : length (more done x) + k ≡ length done + suc k = omega (arith, more_length done x) in
    subst (λ (m : ℕ). get_or (builds xs (more done x)) m no_build ≡ build_over (λ p. get_or (builds xs (more done x)) p no_build) (shape_at xs k)) e
    (at xs (more done x) k (omega arith)
    (each_map (λ p. p < length done + suc k) (λ p. p < length (more done x) + k) (λ p m. omega arith) (shape_at xs k) l))

pub build_step : (t : Table) (i : ℕ) → i < length t → EachPart (λ p. p < i) (shape_at t i)
    → build_at t i ≡ build_over (build_at t) (shape_at t i)
build_step t i h l =
    ap (λ (m : ℕ). get_or (builds t []) m no_build) (sym (zero-add i))
    ∙ at t [] i h (each_map (λ p. p < i) (λ p. p < 0 + i) (λ p m. omega arith) (shape_at t i) l)
