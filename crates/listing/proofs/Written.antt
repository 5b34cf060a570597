-- A list that is written over the start of another.
use Rattle.std.proofs.Common.{◌≡◌, ℕ, zero, suc, ◌<◌, ◌≤◌, List, [], ◌∷◌, ◌++◌, length, take, drop, set, refl, ap, le_of_suc-le-suc, not-suc-le-zero, arith}

module _ {A : Type 0} where
  -- the next is stored
  pub stored : (n : ℕ) (ps qs rest : List A) (p : A) → drop n ps ≡ p ∷ rest → n < length qs
      → set (take n ps ++ drop n qs) n p ≡ take (suc n) ps ++ drop (suc n) qs
  stored zero [] qs rest p e h = absurd (cc)
  stored zero (x ∷ ps) [] rest p e h = absurd (not-suc-le-zero h)
  stored zero (x ∷ ps) (q ∷ qs) rest p e h = let d : p ≡ x = cc in ap (λ (y : A). y ∷ qs) d
  stored (suc n) [] qs rest p e h = absurd (cc)
  stored (suc n) (x ∷ ps) [] rest p e h = absurd (not-suc-le-zero h)
  stored (suc n) (x ∷ ps) (q ∷ qs) rest p e h = ap (λ (l : List A). x ∷ l) (stored n ps qs rest p e (le_of_suc-le-suc h))

  pub place_of_next : (n : ℕ) (ps rest : List A) (p : A) → drop n ps ≡ p ∷ rest → (n < length ps) × (drop (suc n) ps ≡ rest)
  place_of_next zero [] rest p e = absurd (cc)
  place_of_next zero (x ∷ ps) rest p e = (omega arith, cc)
  place_of_next (suc n) [] rest p e = absurd (cc)
  place_of_next (suc n) (x ∷ ps) rest p e = let t = place_of_next n ps rest p e in (omega (arith, t.0), t.1)

  -- all are written
  pub nothing_more : (n : ℕ) (ps : List A) → drop n ps ≡ [] → n ≤ length ps → (n ≡ length ps) × (take n ps ≡ ps)
  nothing_more zero [] e h = (refl, refl)
  nothing_more zero (x ∷ ps) e h = absurd (cc)
  nothing_more (suc n) [] e h = absurd (not-suc-le-zero h)
  nothing_more (suc n) (x ∷ ps) e h = let t = nothing_more n ps e (le_of_suc-le-suc h) in (ap suc t.0, ap (λ (l : List A). x ∷ l) t.1)
