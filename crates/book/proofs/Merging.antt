-- To make one class of two.
use Rattle.std.proofs.Common.{◌≡◌, ℕ, zero, suc, ◌+◌, ◌<◌, ◌≤◌, min, max, Bool, true, false, ◌≢◌, ◌⊎◌, List, [], ◌∷◌, length, get_or, set, sym, refl, ap, ◌∙◌, subst, subst₂, inl, inr, not-suc-le-zero, arith, length-set}
use mathlib.Core.List.Memᴰ
use mathlib.Core.List.{Memᴰ}
use native.Mathlib.Decide.{ℕ_discrete}
use Rattle.theory.specs.Equality.{Equal, given, turned, joined}
use Rattle.theory.specs.Tables.{Table, NodePairs, EachPart, shape_at, build_at, equations}
use Rattle.theory.specs.Steps.{Partway, Merged, Merge, class_count}
use Rattle.theory.proofs.Closing.{closing}
use Rattle.book.specs.declared.row.Row.{Row}
use Rattle.book.specs.Rows.{row, class, table, bare, with_class, moved, Relabelled, Tidy, Based}
use Rattle.book.specs.Closing.{Joined, Reclassed, Turned, marks, weight}
use Rattle.book.proofs.Relabel.{moved_gone, moved_other}
use Rattle.book.proofs.Tables.{table_long, lower, reclassed_table}

-- each node with its class
own : ℕ → (ℕ → ℕ) → NodePairs
own zero cl = []
own (suc n) cl = (n, cl n) ∷ own n cl

own_has : (n : ℕ) (cl : ℕ → ℕ) (i : ℕ) → i < n → Memᴰ (i, cl i) (own n cl)
unfolding own
own_has zero cl i h = absurd (not-suc-le-zero h)
own_has (suc n) cl i h = go (λ k. own_has n cl i k) (ℕ_discrete i n)
  where
    go : (i < n → Memᴰ (i, cl i) (own n cl)) → Dec (i ≡ n) → Memᴰ (i, cl i) ((n, cl n) ∷ own n cl)
    go ih (yes e) = Memᴰ.head (ap (λ (k : ℕ). (k, cl k)) e)
    go ih (no e) = Memᴰ.tail (ih (omega arith))

-- any classes are sound for equations that say as much
module _ (t : Table) (cl : ℕ → ℕ) (a b : ℕ) where
  own_pairs : NodePairs
  own_pairs = (a, b) ∷ own (length t) cl

  given_equal : (i j : ℕ) → Memᴰ (i, j) own_pairs → Equal (equations t own_pairs) (build_at t i) (build_at t j)
  given_equal i j m = given (Memᴰ.map (λ (e : ℕ × ℕ). (build_at t e.0, build_at t e.1)) m)

  to_class : (i : ℕ) → i < length t → Equal (equations t own_pairs) (build_at t i) (build_at t (cl i))
  unfolding own_pairs
  to_class i h = given_equal i (cl i) (Memᴰ.tail (own_has (length t) cl i h))

  merge_any : (to : ℕ → ℕ) → ((i : ℕ) → i < length t → EachPart (λ p. p < i) (shape_at t i)) → ((i : ℕ) → i < length t → (cl i ≤ i) × (cl (cl i) ≡ cl i))
      → a < length t → b < length t → cl a < cl b → Merged (length t) cl to a b → Merge t cl to own_pairs a b
  unfolding own_pairs
  merge_any to low base h l less m =
      closing.merge t cl to own_pairs
      (record {
        lower = low;
        least = λ i k. (base i k).0;
        fixed = λ i k. (base i k).1;
        sound = λ i j k k' e. joined (to_class i k) (subst (λ (c : ℕ). Equal (equations t own_pairs) (build_at t c) (build_at t j)) (sym e) (turned (to_class j k')));
      })
      a b h l less (given_equal a b (Memᴰ.head refl)) m

pub class_moved : (xs ys : List Row) (n keep gone i : ℕ) → Relabelled xs ys n keep gone → i < n → class ys i ≡ moved keep gone (class xs i)
class_moved xs ys n keep gone i R h = ap (λ (r : Row). r.node.class) (R.within i h)

merged_of : (xs ys : List Row) (n a b : ℕ) → Relabelled xs ys n (class xs a) (class xs b) → Merged n (class xs) (class ys) a b
merged_of xs ys n a b R =
    record {
      moved = λ i h e. class_moved xs ys n (class xs a) (class xs b) i R h ∙ moved_gone (class xs a) (class xs b) (class xs i) e;
      kept = λ i h e. class_moved xs ys n (class xs a) (class xs b) i R h ∙ moved_other (class xs a) (class xs b) (class xs i) e;
    }

pub reclassed_of : (xs ys : List Row) (n keep gone : ℕ) → Relabelled xs ys n keep gone → Reclassed n xs ys
reclassed_of xs ys n keep gone R =
    record {
      long = R.long;
      within = λ i h. R.within i h ∙ ap (with_class (row xs i)) (sym (class_moved xs ys n keep gone i R h));
      past = R.past;
    }

pub marks_more : (ds : List Bool) (k : ℕ) → marks (set ds k true) ≤ marks ds + 1
marks_more [] k = omega arith
marks_more (true ∷ ds) zero = omega arith
marks_more (false ∷ ds) zero = omega arith
marks_more (b ∷ ds) (suc k) = omega (arith, marks_more ds k)

pub marks_less : (ds : List Bool) (k : ℕ) → get_or ds k false ≡ true → marks (set ds k false) + 1 ≡ marks ds
marks_less [] k e = absurd (let z : ◌≡◌ {A = ℕ} 0 1 = cc in omega arith)
marks_less (true ∷ ds) zero e = omega arith
marks_less (false ∷ ds) zero e = absurd (let z : ◌≡◌ {A = ℕ} 0 1 = cc in omega arith)
marks_less (b ∷ ds) (suc k) e = omega (arith, marks_less ds k e)

-- the classes of a and b were made one
pub record Step (n : ℕ) (xs ys : List Row) (ds es : List Bool) (a b : ℕ) : Type 0 where
  pub only : Reclassed n xs ys
  pub based : Based ys n
  pub long : length es ≡ length ds
  pub coarser : (i j : ℕ) → i < n → j < n → class xs i ≡ class xs j → class ys i ≡ class ys j
  pub joins : class ys a ≡ class ys b
  pub lighter : weight n ys es ≤ weight n xs ds
  pub sound : (ps : NodePairs) → Partway (table bare xs n) (class xs) ps
      → Equal (equations (table bare xs n) ps) (build_at (table bare xs n) a) (build_at (table bare xs n) b) → Partway (table bare xs n) (class ys) ps

abbrev pub Implied : List Row → ℕ → ℕ → ℕ → Type 0
Implied xs n a b =
    (ps : NodePairs) → Partway (table bare xs n) (class xs) ps
    → Equal (equations (table bare xs n) ps) (build_at (table bare xs n) a) (build_at (table bare xs n) b)

module _ (xs ys : List Row) (ds : List Bool) (n a b : ℕ) (fit : n ≤ length xs) (tidy : Tidy xs n) (base : Based xs n) (h : a < n) (l : b < n)
    (less : class xs a < class xs b) (R : Relabelled xs ys n (class xs a) (class xs b)) where
  size : length (table bare xs n) ≡ n
  size = table_long bare xs n fit

  merged : Merged (length (table bare xs n)) (class xs) (class ys) a b
  merged = subst (λ (k : ℕ). Merged k (class xs) (class ys) a b) (sym size) (merged_of xs ys n a b R)

  M : Merge (table bare xs n) (class xs) (class ys) (own_pairs (table bare xs n) (class xs) a b) a b
  M = merge_any (table bare xs n) (class xs) a b (class ys) (lower bare xs n fit tidy) (λ i k. base i (omega (arith, size)))
      (omega (arith, size)) (omega (arith, size)) less merged

  pub down_step : Step n xs ys ds (set ds (class xs a) true) a b
  down_step =
      record {
        only = reclassed_of xs ys n (class xs a) (class xs b) R;
        based = λ i k. (M.still.least i (omega (arith, size)), M.still.fixed i (omega (arith, size)));
        long = length-set ds (class xs a) true;
        coarser = λ i j k k' e. M.coarser i j (omega (arith, size)) (omega (arith, size)) e;
        joins = M.joins;
        lighter = let f = subst (λ (k : ℕ). class_count k (class ys) < class_count k (class xs)) size M.fewer in omega (arith, marks_more ds (class xs a));
        sound = λ ps P q. (closing.merge (table bare xs n) (class xs) (class ys) ps P a b (omega (arith, size)) (omega (arith, size)) less q merged).still;
      }

pub three : (x y : ℕ) → (x ≡ y) ⊎ ((x < y) ⊎ (y < x))
three zero zero = inl refl
three zero (suc y) = inr (inl (omega arith))
three (suc x) zero = inr (inr (omega arith))
three (suc x) (suc y) = elim (three x y) [ inl e ↦ inl (ap suc e) | inr e ↦ inr (elim e [ inl f ↦ inl (omega arith) | inr f ↦ inr (omega arith) ]) ]

pub turned_none : (n : ℕ) (xs : List Row) (ds : List Bool) → Based xs n → Turned n xs xs ds ds
turned_none n xs ds base =
    record {
      only = record { long = refl; within = λ i h. refl; past = λ i h. refl };
      based = base;
      long = refl;
      coarser = λ i j h l e. e;
      lighter = omega arith;
      sound = λ ps P. P;
    }

pub reclassed_more : (n : ℕ) (xs ys zs : List Row) → Reclassed n xs ys → Reclassed n ys zs → Reclassed n xs zs
reclassed_more n xs ys zs A B =
    record {
      long = B.long ∙ A.long;
      within = λ i h. B.within i h ∙ ap (λ (r : Row). with_class r (class zs i)) (A.within i h);
      past = λ i h. B.past i h ∙ A.past i h;
    }

pub turned_more : (n : ℕ) (xs ys zs : List Row) (ds es fs : List Bool) → n ≤ length xs → Turned n xs ys ds es → Turned n ys zs es fs → Turned n xs zs ds fs
turned_more n xs ys zs ds es fs h A B =
    let e = reclassed_table bare n xs ys h A.only in
    record {
      only = reclassed_more n xs ys zs A.only B.only;
      based = B.based;
      long = B.long ∙ A.long;
      coarser = λ i j k l q. B.coarser i j k l (A.coarser i j k l q);
      lighter = omega (arith, A.lighter, B.lighter);
      sound = λ ps P.
          subst (λ (t : Table). Partway t (class zs) ps) e (B.sound ps (subst (λ (t : Table). Partway t (class ys) ps) (sym e) (A.sound ps P)));
    }

pub turned_next : (xs ys zs : List Row) (ds es fs : List Bool) → Turned (length xs) xs ys ds es → Turned (length ys) ys zs es fs → Turned (length xs) xs zs ds fs
turned_next xs ys zs ds es fs A B =
    turned_more (length xs) xs ys zs ds es fs (omega arith) A (subst (λ (k : ℕ). Turned k ys zs es fs) A.only.long B)

-- what `join` does
pub joined_step : (xs ys : List Row) (ds es : List Bool) (n a b : ℕ) → n ≤ length xs → Tidy xs n → Based xs n → a < n → b < n
    → Joined xs ys ds es n a b → Step n xs ys ds es a b
joined_step xs ys ds es n a b fit tidy base h l J = go (three (class xs a) (class xs b))
  where
    go : (class xs a ≡ class xs b) ⊎ ((class xs a < class xs b) ⊎ (class xs b < class xs a)) → Step n xs ys ds es a b
    go (inl e) =
        let f = J.same e in
        let T = turned_none n xs ds base in
        let S : Step n xs xs ds ds a b = record {
          only = T.only;
          based = base;
          long = refl;
          coarser = T.coarser;
          joins = e;
          lighter = T.lighter;
          sound = λ ps P q. P;
        } in
        subst₂ (λ (zs : List Row) (fs : List Bool). Step n xs zs ds fs a b) (sym f.0) (sym f.1) S
    go (inr (inl k)) =
        let f = J.down k in
        subst (λ (fs : List Bool). Step n xs ys ds fs a b) (sym f.1) (down_step xs ys ds n a b fit tidy base h l k f.0)
    go (inr (inr k)) =
        let f = J.up k in
        let S = down_step xs ys ds n b a fit tidy base l h k f.0 in
        let U : Step n xs ys ds (set ds (class xs b) true) a b = record {
          only = S.only;
          based = S.based;
          long = S.long;
          coarser = S.coarser;
          joins = sym S.joins;
          lighter = S.lighter;
          sound = λ ps P q. S.sound ps P (turned q);
        } in
        subst (λ (fs : List Bool). Step n xs ys ds fs a b) (sym f.1) U

pub step_turned : (n : ℕ) (xs ys : List Row) (ds es : List Bool) (a b : ℕ) → Step n xs ys ds es a b → Implied xs n a b → Turned n xs ys ds es
step_turned n xs ys ds es a b S q =
    record {
      only = S.only;
      based = S.based;
      long = S.long;
      coarser = S.coarser;
      lighter = S.lighter;
      sound = λ ps P. S.sound ps P (q ps P);
    }

-- to put the higher of two classes into the lower keeps the classes by their nodes
module _ (xs ys : List Row) (n i j keep gone : ℕ) (base : Based xs n) (h : i < n) (l : j < n) (ne : class xs i ≢ class xs j)
    (k : keep ≡ min (class xs i) (class xs j)) (g : gone ≡ max (class xs i) (class xs j)) (R : Relabelled xs ys n keep gone) where
  kept_is : class xs keep ≡ keep
  kept_is = elim (three (class xs i) (class xs j)) [
    | inl e ↦ absurd (ne e)
    | inr o ↦ elim o [
      | inl q ↦ let e : keep ≡ class xs i = omega arith in ap (class xs) e ∙ (base i h).1 ∙ sym e
      | inr q ↦ let e : keep ≡ class xs j = omega arith in ap (class xs) e ∙ (base j l).1 ∙ sym e
    ]
  ]

  apart : keep < gone
  apart = omega arith

  stays_at : (c : ℕ) → c < n → class xs c ≡ c → c ≢ gone → class ys c ≡ c
  stays_at c q e d = class_moved xs ys n keep gone c R q ∙ moved_other keep gone (class xs c) (λ r. d (sym e ∙ r)) ∙ e

  pub join_based : Based ys n
  join_based p q = go (ℕ_discrete (class xs p) gone)
    where
      go : Dec (class xs p ≡ gone) → (class ys p ≤ p) × (class ys (class ys p) ≡ class ys p)
      go (yes e) =
          let b = base p q in
          let m : class ys p ≡ keep = class_moved xs ys n keep gone p R q ∙ moved_gone keep gone (class xs p) e in
          (omega (arith, apart, b.0), ap (class ys) m ∙ stays_at keep (omega (arith, apart, b.0)) kept_is (λ r. omega (arith, apart)) ∙ sym m)
      go (no e) =
          let b = base p q in
          let m : class ys p ≡ class xs p = class_moved xs ys n keep gone p R q ∙ moved_other keep gone (class xs p) e in
          (omega (arith, b.0), ap (class ys) m ∙ stays_at (class xs p) (omega (arith, b.0)) b.1 e ∙ sym m)
