-- The equations that the rows hold, and what follows from more of them.
use Rattle.std.proofs.Common.{◌≡◌, ℕ, zero, suc, ◌<◌, ◌≤◌, List, [], ◌∷◌, length, get_or, sym, refl, ap, ◌∙◌, subst, subst₂, le_of_suc-le-suc, not-suc-le-zero, arith}
use mathlib.Core.List.Memᴰ
use mathlib.Core.List.{Memᴰ}
use Rattle.theory.specs.Builds.{Build}
use Rattle.theory.specs.Equality.{Equal, given as stated, same, turned, joined, in_one, in_two}
use Rattle.theory.specs.Tables.{Table, NodePairs, EachPart, build_over, build_at, equations, shape_at}
use Rattle.theory.proofs.Tables.{build_step, build_over_same, each_map}
use Rattle.theory.specs.Steps.{Partway}
use Rattle.book.specs.declared.row.Row.{Row}
use Rattle.book.specs.Rows.{row, class, table, bare, pairs_in, Tidy, Based}
use Rattle.book.proofs.Columns.{column_long, column_at, same_column}
use Rattle.book.proofs.Tables.{table_long, lower}

at_index : {A : Type 0} (xs : List A) (k : ℕ) (d : A) → k < length xs → Memᴰ (get_or xs k d) xs
at_index [] k d h = absurd (not-suc-le-zero h)
at_index (x ∷ xs) zero d h = Memᴰ.head refl
at_index (x ∷ xs) (suc k) d h = Memᴰ.tail (at_index xs k d (le_of_suc-le-suc h))

index_of : {A : Type 0} {x : A} {xs : List A} (d : A) → Memᴰ x xs → (k : ℕ) × (k < length xs) × (x ≡ get_or xs k d)
index_of d (Memᴰ.head e) = (0, omega arith, e)
index_of d (Memᴰ.tail m) = let f = index_of d m in (suc f.0, omega (arith, f.1), f.2)

-- the equation in the row k
abbrev pub pair : List Row → ℕ → ℕ × ℕ
pair rows k = ((row rows k).equation.left, (row rows k).equation.right)

pairs_long : (rows : List Row) (n : ℕ) → n ≤ length rows → length (pairs_in rows n) ≡ n
pairs_long rows n h = column_long (λ (r : Row). (r.equation.left, r.equation.right)) rows n h

pairs_at : (rows : List Row) (n k : ℕ) → n ≤ length rows → k < n → get_or (pairs_in rows n) k (0, 0) ≡ pair rows k
pairs_at rows n k h l = column_at (λ (r : Row). (r.equation.left, r.equation.right)) rows n k (0, 0) h l

pub pairs_has : (rows : List Row) (n k : ℕ) → n ≤ length rows → k < n → Memᴰ (pair rows k) (pairs_in rows n)
pairs_has rows n k h l =
    subst (λ (e : ℕ × ℕ). Memᴰ e (pairs_in rows n)) (pairs_at rows n k h l) (at_index (pairs_in rows n) k (0, 0) (omega (arith, pairs_long rows n h)))

pub pairs_of : (rows : List Row) (n : ℕ) (e : ℕ × ℕ) → n ≤ length rows → Memᴰ e (pairs_in rows n) → (k : ℕ) × (k < n) × (e ≡ pair rows k)
pairs_of rows n e h m =
    let f = index_of (0, 0) m in
    let l : f.0 < n = omega (arith, f.1, pairs_long rows n h) in
    (f.0, l, f.2 ∙ pairs_at rows n f.0 h l)

-- what follows from some equations follows from more
pub more_follows : (t : Table) (es fs : NodePairs) → ((e : ℕ × ℕ) → Memᴰ e es → Memᴰ e fs) → {u v : Build} → Equal (equations t es) u v → Equal (equations t fs) u v
more_follows t es fs f {u} {v} (stated m) =
    let g = Memᴰ.of_map (λ (e : ℕ × ℕ). (build_at t e.0, build_at t e.1)) es m in
    stated (subst (λ (x : Build × Build). Memᴰ x (equations t fs)) g.2 (Memᴰ.map (λ (e : ℕ × ℕ). (build_at t e.0, build_at t e.1)) (f g.0 g.1)))
more_follows t es fs f same = same
more_follows t es fs f (turned q) = turned (more_follows t es fs f q)
more_follows t es fs f (joined q r) = joined (more_follows t es fs f q) (more_follows t es fs f r)
more_follows t es fs f (in_one q) = in_one (more_follows t es fs f q)
more_follows t es fs f (in_two q r) = in_two (more_follows t es fs f q) (more_follows t es fs f r)

module _ (rows : List Row) (n : ℕ) (fit : n ≤ length rows) (tidy : Tidy rows n) (base : Based rows n) where
  pub partway_of : (ps : NodePairs) → ((i j : ℕ) → i < n → j < n → class rows i ≡ class rows j → Equal (equations (table bare rows n) ps) (build_at (table bare rows n) i) (build_at (table bare rows n) j))
      → Partway (table bare rows n) (class rows) ps
  partway_of ps f =
      let s = table_long bare rows n fit in
      record {
        lower = lower bare rows n fit tidy;
        least = λ i h. (base i (omega arith)).0;
        fixed = λ i h. (base i (omega arith)).1;
        sound = λ i j h l e. f i j (omega arith) (omega arith) e;
      }

pub same_pairs : (xs ys : List Row) (n : ℕ) → n ≤ length xs → n ≤ length ys → ((i : ℕ) → i < n → pair ys i ≡ pair xs i) → pairs_in ys n ≡ pairs_in xs n
same_pairs xs ys n h k f = same_column (λ (r : Row). (r.equation.left, r.equation.right)) xs ys n h k f

-- tables that say the same of the nodes below n give them the same builds
module _ (t u : Table) (n : ℕ) (lt : n ≤ length t) (lu : n ≤ length u) (low_t : (i : ℕ) → i < length t → EachPart (λ p. p < i) (shape_at t i))
    (low_u : (i : ℕ) → i < length u → EachPart (λ p. p < i) (shape_at u i)) (e : (i : ℕ) → i < n → shape_at t i ≡ shape_at u i) where
  agree_from : (f i : ℕ) → i < f → i < n → build_at t i ≡ build_at u i
  agree_from zero i l h = absurd (not-suc-le-zero l)
  agree_from (suc f) i l h =
      build_step t i (omega arith) (low_t i (omega arith))
      ∙ build_over_same (build_at t) (build_at u) (shape_at t i)
      (each_map (λ p. p < i) (λ p. build_at t p ≡ build_at u p) (λ p m. agree_from f p (omega arith) (omega arith)) (shape_at t i) (low_t i (omega arith)))
      ∙ ap (build_over (build_at u)) (e i h)
      ∙ sym (build_step u i (omega arith) (low_u i (omega arith)))

  pub builds_agree : (i : ℕ) → i < n → build_at t i ≡ build_at u i
  builds_agree i h = agree_from (suc i) i (omega arith) h

-- equality carries over to a table that gives the equations' nodes the same builds
pub eq_agree : (t u : Table) (ps : NodePairs) → ((e : ℕ × ℕ) → Memᴰ e ps → (build_at t e.0 ≡ build_at u e.0) × (build_at t e.1 ≡ build_at u e.1))
    → {a b : Build} → Equal (equations t ps) a b → Equal (equations u ps) a b
eq_agree t u ps f {a} {b} (stated m) =
    let g = Memᴰ.of_map (λ (e : ℕ × ℕ). (build_at t e.0, build_at t e.1)) ps m in
    let h = f g.0 g.1 in
    let p : build_at u g.0.0 ≡ a = sym h.0 ∙ ap (λ (x : Build × Build). x.0) g.2 in
    let q : build_at u g.0.1 ≡ b = sym h.1 ∙ ap (λ (x : Build × Build). x.1) g.2 in
    subst₂ (λ (x y : Build). Equal (equations u ps) x y) p q (stated (Memᴰ.map (λ (e : ℕ × ℕ). (build_at u e.0, build_at u e.1)) g.1))
eq_agree t u ps f same = same
eq_agree t u ps f (turned q) = turned (eq_agree t u ps f q)
eq_agree t u ps f (joined q r) = joined (eq_agree t u ps f q) (eq_agree t u ps f r)
eq_agree t u ps f (in_one q) = in_one (eq_agree t u ps f q)
eq_agree t u ps f (in_two q r) = in_two (eq_agree t u ps f q) (eq_agree t u ps f r)
