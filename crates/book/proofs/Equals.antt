-- What the classes say of equality.
use Rattle.std.proofs.Common.{◌≡◌, ℕ, ◌<◌, eqb, length, refl, ap, arith}
use native.Mathlib.Decide.{ℕ_discrete}
use Rattle.std.proofs.lemmas.Bool.{eq-eqb, ne_eqb}
use Rattle.theory.specs.Books.{table as table_of}
use Rattle.theory.specs.Calls.{granted, Sameness, Sameness.same, Sameness.different}
use Rattle.theory.proofs.Books.{table_length}
use Rattle.theory.proofs.Grammar.{completeness}
use Rattle.book.specs.Rows.{class}
use Rattle.book.specs.Layout.{Contents, state_of}
use Rattle.book.specs.Invariant.{Sound}
use Rattle.book.proofs.States.{nodes_long, closed_state}

-- to compare classes answers sameness
pub sameness : (s : Contents) → Sound s → (a b : ℕ) → a < s.nodes → b < s.nodes
    → Sameness (state_of s) a b (granted (eqb (class s.rows a) (class s.rows b))) (state_of s)
sameness s K a b h l =
    let n = nodes_long s K in
    let z = table_length (state_of s) in
    go (ℕ_discrete (class s.rows a) (class s.rows b)) (omega arith) (omega arith) (omega arith) (omega arith)
  where
    go : Dec (class s.rows a ≡ class s.rows b) → a < length (table_of (state_of s)) → b < length (table_of (state_of s))
        → a < length (state_of s).nodes → b < length (state_of s).nodes
        → Sameness (state_of s) a b (granted (eqb (class s.rows a) (class s.rows b))) (state_of s)
    go (yes e) i j p q =
        let c = completeness (table_of (state_of s)) (class s.rows) (state_of s).equated (closed_state s K) a b i j in
        same (p, q) (c.1 e) (ap granted (eq-eqb (class s.rows a) (class s.rows b) e)) refl
    go (no e) i j p q =
        let c = completeness (table_of (state_of s)) (class s.rows) (state_of s).equated (closed_state s K) a b i j in
        different (p, q) (λ g. e (c.0 g)) (ap granted (ne_eqb (class s.rows a) (class s.rows b) e)) refl
