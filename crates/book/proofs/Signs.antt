-- Two nodes have one sign exactly when their signatures agree.
use Rattle.std.proofs.Common.{◌≡◌, ℕ, zero, suc, ◌-◌, ◌<◌, ◌≤◌, Bool, true, false, List, length, Some, None, Option, MatchOption, Decides, sym, refl, ap, ◌∙◌, ap₂, subst, arith}
use Rattle.std.proofs.lemmas.Bool.Decides.{nat_tests}
use Rattle.theory.specs.Names.{Name}
use Rattle.theory.specs.Tables.{atom, unary, map_parts}
use Rattle.book.specs.declared.row.Row.{Row}
use Rattle.book.specs.declared.row.Signature.{Signature}
use Rattle.book.specs.declared.row.Node.{Node}
use Rattle.book.specs.Rows.{shaped, shape_of, bare, class, row, sign, TidyNode, Tidy}
use Rattle.book.specs.Closing.{key}
use Rattle.book.specs.Entering.{same_signature, Meets}
use mathlib.Core.Bool.{false≢true}

module _ (cl : ℕ → ℕ) where
  same_parts : (s t p l m r q : ℕ) → s ≡ t → cl l ≡ cl m → cl r ≡ cl q → map_parts cl (shaped bare s p l r) ≡ map_parts cl (shaped bare t p m q)
  same_parts s t zero l m r q e f g = ap (λ (x : ℕ). atom (bare x)) e
  same_parts s t (suc zero) l m r q e f g = ap₂ (λ (x y : ℕ). unary (bare x) y) e f
  same_parts s t (suc (suc k)) l m r q e f g = cc

  pub of_agree : (x y : Node) → x.symbol ≡ y.symbol → x.parts ≡ y.parts → cl x.left ≡ cl y.left → cl x.right ≡ cl y.right
      → map_parts cl (shape_of bare x) ≡ map_parts cl (shape_of bare y)
  of_agree x y e p f g =
      same_parts x.symbol y.symbol x.parts x.left y.left x.right y.right e f g
      ∙ ap (λ (k : ℕ). map_parts cl (shaped bare y.symbol k y.left y.right)) p

  module _ (nm : ℕ → Name) where
    abbrev Same : ℕ → ℕ → ℕ → ℕ → ℕ → ℕ → ℕ → ℕ → Type 0
    Same s p l r s' p' l' r' = (nm s ≡ nm s') × (p ≡ p') × (cl l ≡ cl l') × (cl r ≡ cl r')

    clash : {s p l r s' p' l' r' : ℕ} → ◌≡◌ {A = ℕ} 0 1 → Same s p l r s' p' l' r'
    clash e = absurd (omega arith)

    agrees : (s p l r s' p' l' r' : ℕ) → p ≤ 2 → (p < 1 → l ≡ 0) → (p < 2 → r ≡ 0) → p' ≤ 2 → (p' < 1 → l' ≡ 0) → (p' < 2 → r' ≡ 0)
        → map_parts cl (shaped nm s p l r) ≡ map_parts cl (shaped nm s' p' l' r') → Same s p l r s' p' l' r'
    agrees s zero l r s' zero l' r' a b c a' b' c' e =
        (cc, refl, ap cl (b (omega arith) ∙ sym (b' (omega arith))), ap cl (c (omega arith) ∙ sym (c' (omega arith))))
    agrees s (suc zero) l r s' (suc zero) l' r' a b c a' b' c' e = (cc, refl, cc, ap cl (c (omega arith) ∙ sym (c' (omega arith))))
    agrees s (suc (suc k)) l r s' (suc (suc k')) l' r' a b c a' b' c' e = (cc, omega arith, cc, cc)
    agrees s zero l r s' (suc zero) l' r' a b c a' b' c' e = clash (cc)
    agrees s zero l r s' (suc (suc k')) l' r' a b c a' b' c' e = clash (cc)
    agrees s (suc zero) l r s' zero l' r' a b c a' b' c' e = clash (cc)
    agrees s (suc zero) l r s' (suc (suc k')) l' r' a b c a' b' c' e = clash (cc)
    agrees s (suc (suc k)) l r s' zero l' r' a b c a' b' c' e = clash (cc)
    agrees s (suc (suc k)) l r s' (suc zero) l' r' a b c a' b' c' e = clash (cc)

    pub to_agree : (i j : ℕ) (x y : Node) → TidyNode i x → TidyNode j y → map_parts cl (shape_of nm x) ≡ map_parts cl (shape_of nm y)
        → (nm x.symbol ≡ nm y.symbol) × (x.parts ≡ y.parts) × (cl x.left ≡ cl y.left) × (cl x.right ≡ cl y.right)
    to_agree i j x y a b e =
        agrees x.symbol x.parts x.left x.right y.symbol y.parts y.left y.right a.0 a.3 a.4 b.0 b.3 b.4 e

pub bare_one : (s t : ℕ) → bare s ≡ bare t → s ≡ t
bare_one s t e = cc

-- `==` tells whether two say the same
pub same_signature_true : (a b : Signature) → same_signature a b ≡ true → a ≡ b
same_signature_true a b e =
    let s : a.symbol ≡ b.symbol = grind (arith, nat_tests) in
    let p : a.parts ≡ b.parts = grind (arith, nat_tests) in
    let l : a.left ≡ b.left = grind (arith, nat_tests) in
    let r : a.right ≡ b.right = grind (arith, nat_tests) in
    λ k. record { symbol = s k; parts = p k; left = l k; right = r k }

pub same_signature_same : (a b : Signature) → a ≡ b → same_signature a b ≡ true
same_signature_same a b e = subst (λ (k : Signature). same_signature a k ≡ true) e (grind (arith, nat_tests))

pub alike_is : (rows : List Row) (i j : ℕ) → TidyNode i (row rows i).node → TidyNode j (row rows j).node
    → Decides (same_signature (key rows i) (key rows j)) (sign rows i ≡ sign rows j)
alike_is rows i j x y = (
  λ t.
      let e = same_signature_true (key rows i) (key rows j) t in
      of_agree (class rows) (row rows i).node (row rows j).node (ap (λ (k : Signature). k.symbol) e) (ap (λ (k : Signature). k.parts) e)
      (ap (λ (k : Signature). k.left) e) (ap (λ (k : Signature). k.right) e),
  λ q.
      let g = to_agree (class rows) bare i j (row rows i).node (row rows j).node x y q in
      same_signature_same (key rows i) (key rows j)
      (λ k. record { symbol = bare_one (row rows i).node.symbol (row rows j).node.symbol g.0 k; parts = g.1 k; left = g.2 k; right = g.3 k }),
)

-- what `alike` tells, of rows that are those lent
pub alike_told : (rows ns : List Row) (i j : ℕ) (b : Bool) → ns ≡ rows → Tidy rows (length rows) → i < length rows → j < length rows
    → b ≡ same_signature (key ns i) (key ns j) → Decides b (sign rows i ≡ sign rows j)
alike_told rows ns i j b e T h l q =
    subst (λ (v : Bool). Decides v (sign rows i ≡ sign rows j)) (sym (q ∙ ap (λ (rs : List Row). same_signature (key rs i) (key rs j)) e))
    (alike_is rows i j (T i h) (T j l))

-- what the search for a congruent node finds
pub meets_of : (rows : List Row) (r : Option ℕ) → Tidy rows (length rows) → 0 < length rows
    → MatchOption r ((k : ℕ) → 0 ≤ k → k < length rows - 1 → same_signature (key rows k) (key rows (length rows - 1)) ≡ false)
    (λ i. (0 ≤ i) × (i < length rows - 1) × (same_signature (key rows i) (key rows (length rows - 1)) ≡ true)
    × ((k : ℕ) → 0 ≤ k → k < i → same_signature (key rows k) (key rows (length rows - 1)) ≡ false))
    → Meets rows (length rows - 1) r
meets_of rows None T h f = λ i l e.
    false≢true (sym (f i (omega arith) l) ∙ (alike_is rows i (length rows - 1) (T i (omega arith)) (T (length rows - 1) (omega arith))).1 e)
meets_of rows (Some i) T h f =
    (f.1, (alike_is rows i (length rows - 1) (T i (omega (arith, f.1))) (T (length rows - 1) (omega arith))).0 f.2)
