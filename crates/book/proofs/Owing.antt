-- What is still owed: congruent nodes that are not yet of one class.
use Rattle.std.proofs.Common.{◌≡◌, ℕ, ◌+◌, ◌<◌, ◌≤◌, Bool, true, false, ◌≢◌, List, length, get_or, set, sym, ap, ◌∙◌, subst, inl, inr, arith}
use native.Mathlib.Decide.{ℕ_discrete}
use Rattle.std.proofs.lemmas.List.{get_or-set_same, get_or-set_other}
use Rattle.theory.specs.Tables.{EachPart, map_parts}
use Rattle.theory.proofs.Tables.{each_map, each_both}
use Rattle.book.specs.declared.row.Row.{Row}
use Rattle.book.specs.Rows.{row, class, shape, shape_of, sign, bare, Relabelled, Tidy}
use Rattle.book.specs.Closing.{Clean, Clear, Waits, Owes, Level}
use Rattle.book.proofs.Relabel.{moved_gone, moved_other}
use Rattle.book.proofs.Tables.{node_lower, each_all, each_of, of_each, part_map_same}
use Rattle.book.proofs.Merging.{class_moved}

unmarked : (ds : List Bool) (m k : ℕ) → m < length ds → get_or (set ds m true) k false ≡ false → (k ≢ m) × (get_or ds k false ≡ false)
unmarked ds m k h e = (ne, sym (get_or-set_other ds m k true false ne) ∙ e)
  where
    ne : k ≢ m
    ne q =
        let f = get_or-set_same ds m true false h in
        let g : true ≡ false = sym f ∙ ap (λ (x : ℕ). get_or (set ds m true) x false) (sym q) ∙ e in
        let z : ◌≡◌ {A = ℕ} 0 1 = cc in omega arith

-- a merge that marks what it keeps owes no more
module _ (xs ys : List Row) (ds : List Bool) (n keep gone : ℕ) (R : Relabelled xs ys n keep gone) (k : keep < length ds) (tidy : Tidy xs n)
    (coarser : (i j : ℕ) → i < n → j < n → class xs i ≡ class xs j → class ys i ≡ class ys j) where
  abbrev Pure : ℕ → Type 0
  Pure c = get_or (set ds keep true) c false ≡ false

  unmoved : (p : ℕ) → p < n → Pure (class ys p) → class ys p ≡ class xs p
  unmoved p h m = go (ℕ_discrete (class xs p) gone)
    where
      go : Dec (class xs p ≡ gone) → class ys p ≡ class xs p
      go (yes e) = absurd ((unmarked ds keep (class ys p) k m).0 (class_moved xs ys n keep gone p R h ∙ moved_gone keep gone (class xs p) e))
      go (no e) = class_moved xs ys n keep gone p R h ∙ moved_other keep gone (class xs p) e

  same_shape : (i : ℕ) → i < n → shape ys i ≡ shape xs i
  same_shape i h = ap (λ (r : Row). shape_of bare r.node) (R.within i h)

  within : (i : ℕ) → i < n → EachPart (λ p. p < n) (shape xs i)
  within i h = each_map (λ p. p < i) (λ p. p < n) (λ p l. omega arith) (shape xs i) (node_lower bare i (row xs i).node (tidy i h))

  stays : (i : ℕ) → i < n → Clean ys (set ds keep true) (shape ys i) → EachPart (λ p. class ys p ≡ class xs p) (shape xs i)
  stays i h c =
      each_both (λ p. p < n) (λ p. Pure (class ys p)) (λ p. class ys p ≡ class xs p) unmoved (shape xs i) (within i h)
      (subst (EachPart (λ p. Pure (class ys p))) (same_shape i h) c)

  same_sign : (i : ℕ) → i < n → Clean ys (set ds keep true) (shape ys i) → sign ys i ≡ sign xs i
  same_sign i h c = ap (map_parts (class ys)) (same_shape i h) ∙ part_map_same (class ys) (class xs) (shape xs i) (stays i h c)

  pub owes_merge : (d a b : ℕ) → Owes xs n ds d a b → Owes ys n (set ds keep true) d a b
  owes_merge d a b O i j h l e c o =
      let u = stays i h c in
      let c' : Clean ys (set ds keep true) (shape ys j) = each_of Pure (class ys) (shape ys j) (subst (EachPart Pure) e (of_each Pure (class ys) (shape ys i) c)) in
      coarser i j h l
      (O i j h l (sym (same_sign i h c) ∙ e ∙ same_sign j l c')
      (each_both (λ p. class ys p ≡ class xs p) (λ p. Pure (class ys p)) (λ p. get_or ds (class xs p) false ≡ false)
      (λ p q m. (unmarked ds keep (class xs p) k (ap (λ (x : ℕ). get_or (set ds keep true) x false) (sym q) ∙ m)).1)
      (shape xs i) u (subst (EachPart (λ p. Pure (class ys p))) (same_shape i h) c))
      (elim o [
        | inl q ↦ inl (each_both (λ p. class ys p ≡ class xs p) (λ p. class ys p ≢ d) (λ p. class xs p ≢ d) (λ p f g s. g (f ∙ s)) (shape xs i) u (subst (Clear ys d) (same_shape i h) q))
        | inr q ↦ inr q
      ]))

module _ (rows : List Row) (n : ℕ) (ds : List Bool) (d : ℕ) where
  -- one more pair is compared
  pub owes_next : (a b : ℕ) → Owes rows n ds d a b → (sign rows a ≡ sign rows b → class rows a ≡ class rows b) → Owes rows n ds d a (b + 1)
  owes_next a b O f i j h l e c o = elim o [
    | inl q ↦ O i j h l e c (inl q)
    | inr r ↦ elim r [ inl q ↦ O i j h l e c (inr (inl q)) | inr q ↦ go q.0 q.1 (ℕ_discrete j b) ]
  ]
    where
      go : i ≡ a → j < b + 1 → Dec (j ≡ b) → class rows i ≡ class rows j
      go p m (yes q) =
          ap (class rows) p
          ∙ f (sym (ap (sign rows) p) ∙ e ∙ ap (sign rows) q)
          ∙ sym (ap (class rows) q)
      go p m (no q) = O i j h l e c (inr (inr (p, omega arith)))

  -- one more node is compared with all
  pub owes_row : (a b : ℕ) → n ≤ b → Owes rows n ds d a b → Owes rows n ds d (a + 1) 0
  owes_row a b all O i j h l e c o = elim o [
    | inl q ↦ O i j h l e c (inl q)
    | inr r ↦ elim r [ inl q ↦ go q (ℕ_discrete i a) | inr q ↦ absurd (let m = q.1 in omega arith) ]
  ]
    where
      go : i < a + 1 → Dec (i ≡ a) → class rows i ≡ class rows j
      go m (yes q) = O i j h l e c (inr (inr (q, omega arith)))
      go m (no q) = O i j h l e c (inr (inl (omega arith)))

  -- a node with no part of class d need not be compared
  pub owes_clear : (a : ℕ) → Owes rows n ds d a 0 → Clear rows d (shape rows a) → Owes rows n ds d (a + 1) 0
  owes_clear a O f i j h l e c o = elim o [
    | inl q ↦ O i j h l e c (inl q)
    | inr r ↦ elim r [ inl q ↦ go q (ℕ_discrete i a) | inr q ↦ absurd (let m = q.1 in omega arith) ]
  ]
    where
      go : i < a + 1 → Dec (i ≡ a) → class rows i ≡ class rows j
      go m (yes q) = O i j h l e c (inl (subst (λ (x : ℕ). Clear rows d (shape rows x)) (sym q) f))
      go m (no q) = O i j h l e c (inr (inl (omega arith)))

  pub owes_all : Waits rows n ds → (a b : ℕ) → Owes rows n ds d a b
  owes_all W a b i j h l e c o = W i j h l e c

  pub owes_none : (a b : ℕ) → n ≤ a → Owes rows n ds d a b → Waits rows n ds
  owes_none a b all O i j h l e c = O i j h l e c (inr (inl (omega arith)))

  pub owes_start : Waits rows n ds → Owes rows n (set ds d false) d 0 0
  owes_start W i j h l e c o = elim o [
    | inl q ↦
        W i j h l e
        (each_both (λ p. class rows p ≢ d) (λ p. get_or (set ds d false) (class rows p) false ≡ false) (λ p. get_or ds (class rows p) false ≡ false)
        (λ p u v. sym (get_or-set_other ds d (class rows p) false false u) ∙ v) (shape rows i) q c)
    | inr r ↦ elim r [ inl q ↦ absurd (omega arith) | inr q ↦ absurd (let m = q.1 in omega arith) ]
  ]

pub level_of : (rows : List Row) (n : ℕ) (ds : List Bool) → Waits rows n ds → ((k : ℕ) → get_or ds k false ≡ false) → Level rows n
level_of rows n ds W f i j h l e = W i j h l e (each_all (λ p. get_or ds (class rows p) false ≡ false) (λ p. f (class rows p)) (shape rows i))
