-- How a list is read and changed.
use Rattle.std.proofs.Common.{◌≡◌, ℕ, zero, suc, ◌<◌, true, false, eqb, List, [], ◌∷◌, length, get_or, set, Ok, Err, sym, refl, ◌∙◌, ap, subst, le_of_suc-le-suc, not-suc-le-zero, arith}
use Rattle.std.specs.Prelude.{Option, Some, None, is_none, position}
use Rattle.std.specs.Option.{option_or, option_map}
use Rattle.std.proofs.lemmas.Bool.{cond-true, cond-false}
use Rattle.std.proofs.lemmas.Bool.Decides.{nat_tests}
use Rattle.text.specs.declared.cause.BookCause.TheVariants.{ListFull}
use Rattle.price.specs.Finding.{NotBefore, Nowhere, FirstAt}
use Rattle.price.specs.Lists.{listed, is_for, value_of, Valuing, no_room, renewed, entered, Revalued}
use Rattle.price.specs.declared.list.Listed.{Listed}
use Rattle.price.proofs.Finding.{first_at, nowhere, tail}

module _ {V : Type 0} where
  value_at : (rs : List (Option (Listed V))) (i x : ℕ) (d : Option (Listed V)) → i < length rs → NotBefore (is_for x) rs i → is_for x (get_or rs i d) ≡ true
      → value_of rs x ≡ option_map (λ r. r.value) (get_or rs i d)
  value_at [] i x d lt none here = absurd (not-suc-le-zero lt)
  value_at (r ∷ rs) zero x d lt none here = cond-true _ _ _ here
  value_at (r ∷ rs) (suc i) x d lt none here = cond-false _ _ _ (none 0 d (omega arith)) ∙ value_at rs i x d (le_of_suc-le-suc lt) (tail (is_for x) r rs i none) here

  -- the value stands in the symbol's row
  pub found_first : (rs : List (Option (Listed V))) (i x : ℕ) (d : Option (Listed V)) → FirstAt (is_for x) rs i
      → value_of rs x ≡ option_map (λ r. r.value) (get_or rs i d)
  found_first rs i x d f = value_at rs i x d f.within f.before (f.here d)

  pub found : (rs : List (Option (Listed V))) (i x : ℕ) (d : Option (Listed V)) → position (is_for x) rs ≡ Some i
      → value_of rs x ≡ option_map (λ r. r.value) (get_or rs i d)
  found rs i x d e = found_first rs i x d (first_at (is_for x) rs i e)

  pub unlisted : (rs : List (Option (Listed V))) (x : ℕ) → Nowhere (is_for x) rs → value_of rs x ≡ None
  unlisted [] x none = refl
  unlisted (r ∷ rs) x none = cond-false _ _ _ (none 0 r (omega arith)) ∙ unlisted rs x (tail (is_for x) r rs (length rs) none)

  pub missed : (rs : List (Option (Listed V))) (x : ℕ) → position (is_for x) rs ≡ None → value_of rs x ≡ None
  missed rs x e = unlisted rs x (nowhere (is_for x) rs e)

  -- the row may be given to x: it is for no other symbol
  abbrev Open : ℕ → Option (Listed V) → Type 0
  Open x r = (y : ℕ) → eqb y x ≡ false → is_for y r ≡ false

  open_listed : (x : ℕ) (r : Option (Listed V)) → is_for x r ≡ true → Open x r
  open_listed x None e y ne = refl
  open_listed x (Some r) e y ne = grind (arith, nat_tests)

  open_free : (x : ℕ) (r : Option (Listed V)) → is_none r ≡ true → Open x r
  open_free x None e y ne = refl
  open_free x (Some r) e y ne = absurd (cc)

  given : (rs : List (Option (Listed V))) (i x : ℕ) (v : V) (d : Option (Listed V)) → i < length rs → NotBefore (is_for x) rs i → Open x (get_or rs i d)
      → Revalued rs x v (set rs i (listed x v))
  given [] i x v d lt none free y = absurd (not-suc-le-zero lt)
  given (r ∷ rs) zero x v d lt none free y = let f = free y in grind (arith, nat_tests)
  given (r ∷ rs) (suc i) x v d lt none free y =
      let n : is_for x r ≡ false = none 0 d (omega arith) in
      let again = given rs i x v d (le_of_suc-le-suc lt) (tail (is_for x) r rs i none) free y in
      grind (arith, nat_tests)

  module _ (rs : List (Option (Listed V))) (x : ℕ) (v : V) where
    -- p is the symbol's row, and q the first that is free
    pub put : (p q : Option ℕ) (i : ℕ) (r : Option (Listed V)) → p ≡ position (is_for x) rs → q ≡ position is_none rs → option_or p q ≡ Some i
        → r ≡ listed x v → Valuing rs x v (Ok tt) (set rs i r)
    put None q i r a b e is = entered i (nowhere (is_for x) rs (sym a)) (first_at is_none rs i (sym b ∙ e)) refl (ap (set rs i) is)
    put (Some j) q i r a b e is = renewed i (first_at (is_for x) rs i (sym a ∙ e)) refl (ap (set rs i) is)

    pub put_value : (p q : Option ℕ) (i : ℕ) (r : Option (Listed V)) → p ≡ position (is_for x) rs → q ≡ position is_none rs → option_or p q ≡ Some i
        → r ≡ listed x v → Revalued rs x v (set rs i r)
    put_value None q i r a b e is =
        let f = first_at is_none rs i (sym b ∙ e) in
        let none = nowhere (is_for x) rs (sym a) in
        let lt = f.within in
        subst (λ w. Revalued rs x v (set rs i w)) (sym is) (given rs i x v None lt (λ k d h. none k d (omega arith)) (open_free x _ (f.here None)))
    put_value (Some j) q i r a b e is =
        let f = first_at (is_for x) rs i (sym a ∙ e) in
        subst (λ w. Revalued rs x v (set rs i w)) (sym is) (given rs i x v None f.within f.before (open_listed x _ (f.here None)))

    pub refused : (p q : Option ℕ) → p ≡ position (is_for x) rs → q ≡ position is_none rs → option_or p q ≡ None → Valuing rs x v (Err ListFull) rs
    refused None q a b e = no_room (nowhere (is_for x) rs (sym a)) (nowhere is_none rs (sym b ∙ e)) refl refl
    refused (Some j) q a b e = absurd (cc)
