-- The steps of the loops that close the classes.
use Rattle.std.proofs.Common.{◌≡◌, ℕ, ◌+◌, ◌<◌, ◌≤◌, Bool, true, false, ◌⊎◌, List, length, get_or, set, Some, None, position, sym, ap, ◌∙◌, subst, subst₂, inl, inr, arith, length-set}
use mathlib.Core.List.Memᴰ
use Rattle.std.proofs.lemmas.List.{get_or_past}
use Rattle.std.proofs.lemmas.List.Quantifiers.{position-Some}
use Rattle.theory.specs.Equality.{given}
use Rattle.theory.specs.Tables.{Table, map_parts, build_at}
use Rattle.theory.specs.Steps.{Partway}
use Rattle.theory.proofs.Closing.{closing}
use Rattle.book.specs.declared.row.Row.{Row}
use Rattle.book.specs.Rows.{class, sign, table, bare, TidyNode, Tidy, Based}
use Rattle.book.specs.Closing.{Joined, Waits, Owes, Level, Reclassed, Turned, Accepted, weight}
use Rattle.book.proofs.Found.{passed_by}
use Rattle.book.proofs.Tables.{table_long, table_at, reclassed_table}
use Rattle.book.proofs.Merging.{Implied, Step, three, joined_step, step_turned, turned_more, reclassed_more, marks_less}
use Rattle.book.proofs.Owing.{owes_merge, owes_next, owes_none, owes_all}

pub tidy_still : (n : ℕ) (xs ys : List Row) → Reclassed n xs ys → Tidy xs n → Tidy ys n
tidy_still n xs ys R T i h = subst (λ (r : Row). TidyNode i r.node) (sym (R.within i h)) (T i h)

-- congruent nodes are equal
pub implied_alike : (xs : List Row) (n a b : ℕ) → n ≤ length xs → a < n → b < n → sign xs a ≡ sign xs b → Implied xs n a b
implied_alike xs n a b fit h l e ps P =
    let s = table_long bare xs n fit in
    closing.alike (table bare xs n) (class xs) ps P a b (omega arith) (omega arith)
    (ap (map_parts (class xs)) (table_at bare xs n a fit h) ∙ e ∙ sym (ap (map_parts (class xs)) (table_at bare xs n b fit l)))

module _ (xs ys : List Row) (ds es : List Bool) (n a b : ℕ) (fit : n ≤ length xs) (room : n ≤ length ds) (tidy : Tidy xs n) (base : Based xs n)
    (h : a < n) (l : b < n) (J : Joined xs ys ds es n a b) where
  pub owes_joined : Step n xs ys ds es a b → (d i j : ℕ) → Owes xs n ds d i j → Owes ys n es d i j
  owes_joined T d i j O = go (three (class xs a) (class xs b))
    where
      go : (class xs a ≡ class xs b) ⊎ ((class xs a < class xs b) ⊎ (class xs b < class xs a)) → Owes ys n es d i j
      go (inl e) = let f = J.same e in subst₂ (λ (zs : List Row) (fs : List Bool). Owes zs n fs d i j) (sym f.0) (sym f.1) O
      go (inr (inl k)) =
          let f = J.down k in
          subst (λ (fs : List Bool). Owes ys n fs d i j) (sym f.1)
          (owes_merge xs ys ds n (class xs a) (class xs b) f.0 (omega (arith, base a h)) tidy T.coarser d i j O)
      go (inr (inr k)) =
          let f = J.up k in
          subst (λ (fs : List Bool). Owes ys n fs d i j) (sym f.1)
          (owes_merge xs ys ds n (class xs b) (class xs a) f.0 (omega (arith, base b l)) tidy T.coarser d i j O)

  pub met : sign xs a ≡ sign xs b → Turned n xs ys ds es × ((d : ℕ) → Owes xs n ds d a b → Owes ys n es d a (b + 1))
  met e =
      let S = joined_step xs ys ds es n a b fit tidy base h l J in (
        step_turned n xs ys ds es a b S (implied_alike xs n a b fit h l e),
        λ d O. owes_next ys n es d a b (owes_joined S d a b O) (λ q. S.joins),
      )

-- what the search for a mark finds
pub mark_at : (ds : List Bool) (d : ℕ) → Some d ≡ position (λ (b : Bool). b) ds → (d < length ds) × (get_or ds d false ≡ true)
mark_at ds d e = let f = position-Some (λ (b : Bool). b) ds d false (sym e) in (f.0, f.1)

pub no_mark : (ds : List Bool) → None ≡ position (λ (b : Bool). b) ds → (k : ℕ) → get_or ds k false ≡ false
no_mark ds e k = elim (three k (length ds)) [
  | inl q ↦ get_or_past ds k false (omega arith)
  | inr o ↦ elim o [ inl q ↦ passed_by (λ (b : Bool). b) ds e k false q | inr q ↦ get_or_past ds k false (omega arith) ]
]

-- one turn of `close`: a mark goes, and then the nodes above it are compared
pub closed_turn : (d : ℕ) (xs ys zs : List Row) (cs ds es : List Bool) → d < length ds → get_or ds d false ≡ true
    → Turned (length xs) xs ys cs ds → Turned (length ys) ys zs (set ds d false) es
    → Turned (length xs) xs zs cs es × (weight (length xs) zs es < weight (length xs) ys ds)
closed_turn d xs ys zs cs ds es h m A B' =
    let k = marks_less ds d m in
    let B = subst (λ (n : ℕ). Turned n ys zs (set ds d false) es) A.only.long B' in
    let C : Turned (length xs) ys zs ds es = record {
      only = B.only;
      based = B.based;
      long = B.long ∙ length-set ds d false;
      coarser = B.coarser;
      lighter = omega (arith, B.lighter);
      sound = B.sound;
    } in
    (turned_more (length xs) xs ys zs cs ds es (omega arith) A C, omega (arith, B.lighter))

-- what a merge leaves to compare, of classes that were closed
pub joined_waits : (xs ys : List Row) (ds es : List Bool) (n a b : ℕ) → n ≤ length xs → n ≤ length ds → Tidy xs n → Based xs n → a < n → b < n
    → Joined xs ys ds es n a b → Level xs n → Waits ys n es
joined_waits xs ys ds es n a b fit room tidy base h l J L =
    owes_none ys n es 0 n 0 (omega arith)
    (owes_joined xs ys ds es n a b fit room tidy base h l J (joined_step xs ys ds es n a b fit tidy base h l J) 0 n 0
    (owes_all xs n ds 0 (λ i j k m e c. L i j k m e) n 0))

pub accepted_of : (xs ys zs : List Row) (ds es fs : List Bool) (n a b : ℕ) → n ≤ length xs → Tidy xs n → Based xs n → a < n → b < n
    → Joined xs ys ds es n a b → Turned n ys zs es fs → Level zs n → Accepted xs zs n a b
accepted_of xs ys zs ds es fs n a b fit tidy base h l J T L =
    let S = joined_step xs ys ds es n a b fit tidy base h l J in
    let t : table bare ys n ≡ table bare xs n = reclassed_table bare n xs ys fit S.only in
    record {
      only = reclassed_more n xs ys zs S.only T.only;
      based = T.based;
      level = L;
      coarser = λ i j k m e. T.coarser i j k m (S.coarser i j k m e);
      joins = T.coarser a b h l S.joins;
      sound = λ ps m P.
          let Q = S.sound ps P (given (Memᴰ.map (λ (e : ℕ × ℕ). (build_at (table bare xs n) e.0, build_at (table bare xs n) e.1)) m)) in
          subst (λ (s : Table). Partway s (class zs) ps) t (T.sound ps (subst (λ (s : Table). Partway s (class ys) ps) (sym t) Q));
    }

pub accepted_as : (xs ys zs : List Row) (n a b : ℕ) → ys ≡ zs → Accepted xs zs n a b → Accepted xs ys n a b
accepted_as xs ys zs n a b e A = subst (λ (us : List Row). Accepted xs us n a b) (sym e) A
