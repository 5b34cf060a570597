-- The symbol of a symbol's name is that symbol.
use Rattle.std.proofs.Common.{◌≡◌, ℕ, zero, suc, ◌<◌, Bool, true, false, cond, eqb, List, [], ◌∷◌, length, get_or, refl, ap₂, not-suc-le-zero, arith}
use Rattle.std.proofs.lemmas.Bool.{eqb-true, eq-eqb}
use Rattle.theory.specs.Names.{Name}
use Rattle.theory.specs.Books.{same_name, symbol_of}

pub same_self : (x : Name) → same_name x x ≡ true
same_self [] = refl
same_self (a ∷ x) = let e = eq-eqb a a refl in let f = same_self x in cc

pub same_is : (x y : Name) → same_name x y ≡ true → x ≡ y
same_is [] [] e = refl
same_is [] (b ∷ y) e = let z : ◌≡◌ {A = ℕ} 0 1 = cc in absurd (omega arith)
same_is (a ∷ x) [] e = let z : ◌≡◌ {A = ℕ} 0 1 = cc in absurd (omega arith)
same_is (a ∷ x) (b ∷ y) e = go (eqb a b) refl (same_is x y)
  where
    go : (v : Bool) → eqb a b ≡ v → (same_name x y ≡ true → x ≡ y) → a ∷ x ≡ b ∷ y
    go true f ih =
        let p = eqb-true a b f in
        let q : same_name x y ≡ true = cc in
        ap₂ ◌∷◌ p (ih q)
    go false f ih = let z : ◌≡◌ {A = ℕ} 0 1 = cc in absurd (omega arith)

pub symbol_is : (ns : List Name) → ((j k : ℕ) → j < length ns → k < length ns → get_or ns j [] ≡ get_or ns k [] → j ≡ k)
    → (k : ℕ) → k < length ns → symbol_of ns (get_or ns k []) ≡ k
symbol_is [] apart k h = absurd (not-suc-le-zero h)
symbol_is (y ∷ ys) apart zero h = let e = same_self y in cc
symbol_is (y ∷ ys) apart (suc k) h =
    go (same_name y (get_or ys k [])) refl
    (symbol_is ys (λ i j l m e. omega (arith, apart (suc i) (suc j) (omega arith) (omega arith) e)) k (omega arith))
  where
    go : (v : Bool) → same_name y (get_or ys k []) ≡ v → symbol_of ys (get_or ys k []) ≡ k
        → cond (same_name y (get_or ys k [])) 0 (suc (symbol_of ys (get_or ys k []))) ≡ suc k
    go true e ih = absurd (omega (arith, apart 0 (suc k) (omega arith) h (same_is y (get_or ys k []) e)))
    go false e ih = cc
