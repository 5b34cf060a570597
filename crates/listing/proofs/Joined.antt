-- Lists joined one after another: how long they are together, what is in them, and when they are in order.
use Rattle.std.proofs.Common.{◌≡◌, ℕ, zero, suc, ◌+◌, ◌-◌, ◌*◌, ◌<◌, ◌≤◌, ◌⊎◌, List, [], ◌∷◌, ◌++◌, length, get_or, sym, refl, ap, ◌∙◌, subst, inl, inr, le_of_suc-le-suc, not-suc-le-zero, arith, length-append}
use mathlib.Core.List.Memᴰ
use mathlib.Core.List.{Memᴰ}
use Rattle.std.proofs.lemmas.Bool.{cases_eq, cases_lt}
use Rattle.std.proofs.lemmas.List.{get_or_append_left, get_or-append_right}
use Rattle.listing.specs.Order.{joined}

-- of any two places the lower has what goes before
abbrev pub Ordered : {A : Type 0} → (A → A → Type 0) → A → List A → Type 0
Ordered R d xs = (a b : ℕ) → a < b → b < length xs → R (get_or xs a d) (get_or xs b d)

at_mem : {A : Type 0} (xs : List A) (a : ℕ) (d : A) → a < length xs → Memᴰ (get_or xs a d) xs
at_mem [] a d h = absurd (not-suc-le-zero h)
at_mem (x ∷ xs) zero d h = Memᴰ.head refl
at_mem (x ∷ xs) (suc a) d h = Memᴰ.tail (at_mem xs a d (le_of_suc-le-suc h))

module _ {A : Type 0} (R : A → A → Type 0) (d : A) where
  append_ordered : (xs ys : List A) → Ordered R d xs → Ordered R d ys
      → ((x y : A) → Memᴰ x xs → Memᴰ y ys → R x y) → Ordered R d (xs ++ ys)
  append_ordered xs ys o p q a b l h = go (cases_lt a (length xs)) (cases_lt b (length xs))
    where
      z : length (xs ++ ys) ≡ length xs + length ys
      z = length-append xs ys

      both : (x x' y y' : A) → x' ≡ x → y' ≡ y → R x y → R x' y'
      both x x' y y' e f r = subst (λ (v : A). R v y') (sym e) (subst (R x) (sym f) r)

      left : (i : ℕ) → i < length xs → get_or (xs ++ ys) i d ≡ get_or xs i d
      left i k = get_or_append_left xs ys d i k

      right : (i : ℕ) → length xs ≤ i → get_or (xs ++ ys) i d ≡ get_or ys (i - length xs) d
      right i k = get_or-append_right xs ys (length xs) i d refl k

      go : (a < length xs) ⊎ (length xs ≤ a) → (b < length xs) ⊎ (length xs ≤ b) → R (get_or (xs ++ ys) a d) (get_or (xs ++ ys) b d)
      go (inl k) (inl m) = both _ _ _ _ (left a k) (left b m) (o a b l m)
      go (inl k) (inr m) = both _ _ _ _ (left a k) (right b m) (q _ _ (at_mem xs a d k) (at_mem ys (b - length xs) d (omega (arith, z))))
      go (inr k) (inl m) = absurd (omega arith)
      go (inr k) (inr m) = both _ _ _ _ (right a k) (right b m) (p (a - length xs) (b - length xs) (omega arith) (omega (arith, z)))

module _ {A : Type 0} (f : ℕ → List A) where
  -- those that have none are passed over
  joined_from : (d a m : ℕ) → ((j : ℕ) → a ≤ j → j < a + d → f j ≡ []) → joined f a (d + suc m) ≡ f (a + d) ++ joined f (a + d + 1) m
  joined_from zero a m p = let e : a + 0 ≡ a = omega arith in let z : 0 + suc m ≡ suc m = omega arith in ap (joined f a) z ∙ ap (λ (i : ℕ). f i ++ joined f (i + 1) m) (sym e)
  joined_from (suc d) a m p =
      let e : a + 1 + d ≡ a + suc d = omega arith in
      let z : suc d + suc m ≡ suc (d + suc m) = omega arith in
      ap (joined f a) z
      ∙ ap (λ (l : List A). l ++ joined f (a + 1) (d + suc m)) (p a (omega arith) (omega arith))
      ∙ joined_from d (a + 1) m (λ j l k. p j (omega arith) (omega arith))
      ∙ ap (λ (i : ℕ). f i ++ joined f (i + 1) m) e

  pub joined_found : (a b x : ℕ) → a ≤ x → x < b → ((j : ℕ) → a ≤ j → j < x → f j ≡ []) → joined f a (b - a) ≡ f x ++ joined f (x + 1) (b - (x + 1))
  joined_found a b x l h p =
      let e : b - a ≡ x - a + suc (b - (x + 1)) = omega arith in
      let d : a + (x - a) ≡ x = omega arith in
      ap (joined f a) e
      ∙ joined_from (x - a) a (b - (x + 1)) (λ j k m. p j k (omega arith))
      ∙ ap (λ (i : ℕ). f i ++ joined f (i + 1) (b - (x + 1))) d

  pub joined_none : (a m : ℕ) → ((j : ℕ) → a ≤ j → j < a + m → f j ≡ []) → joined f a m ≡ []
  joined_none a zero p = refl
  joined_none a (suc m) p =
      ap (λ (l : List A). l ++ joined f (a + 1) m) (p a (omega arith) (omega arith))
      ∙ joined_none (a + 1) m (λ j l k. p j (omega arith) (omega arith))

  pub joined_few : (b : ℕ) → ((i : ℕ) → length (f i) ≤ b) → (a n : ℕ) → length (joined f a n) ≤ n * b
  joined_few b h a zero = omega arith
  joined_few b h a (suc n) =
      let z : length (f a ++ joined f (a + 1) n) ≡ length (f a) + length (joined f (a + 1) n) = length-append (f a) (joined f (a + 1) n) in
      let e : suc n * b ≡ n * b + b = omega arith in
      omega (arith, joined_few b h (a + 1) n, h a)

  pub joined_every : (a n i : ℕ) (x : A) → a ≤ i → i < a + n → Memᴰ x (f i) → Memᴰ x (joined f a n)
  joined_every a zero i x l h m = absurd (omega arith)
  joined_every a (suc n) i x l h m = go (cases_eq a i) (λ k. joined_every (a + 1) n i x k (omega arith) m)
    where
      go : (a ≡ i) ⊎ (a ≡ i → ⊥) → (a + 1 ≤ i → Memᴰ x (joined f (a + 1) n)) → Memᴰ x (f a ++ joined f (a + 1) n)
      go (inl e) ih = Memᴰ.append_left (joined f (a + 1) n) (subst (λ (k : ℕ). Memᴰ x (f k)) (sym e) m)
      go (inr e) ih = Memᴰ.append_right (f a) (ih (omega arith))

  pub joined_only : (a n : ℕ) (x : A) → Memᴰ x (joined f a n) → (i : ℕ) × (a ≤ i) × (i < a + n) × Memᴰ x (f i)
  joined_only a zero x m = absurd (Memᴰ.not-nil m)
  joined_only a (suc n) x m = go (Memᴰ.append_cases (f a) m) (joined_only (a + 1) n x)
    where
      go : Memᴰ x (f a) ⊎ Memᴰ x (joined f (a + 1) n) → (Memᴰ x (joined f (a + 1) n) → (i : ℕ) × (a + 1 ≤ i) × (i < a + 1 + n) × Memᴰ x (f i))
          → (i : ℕ) × (a ≤ i) × (i < a + suc n) × Memᴰ x (f i)
      go (inl q) ih = (a, omega arith, omega arith, q)
      go (inr q) ih =
          let t = ih q in
          let l : a + 1 ≤ t.0 = t.1 in
          let h : t.0 < a + 1 + n = t.2 in
          (t.0, omega arith, omega arith, t.3)

  pub joined_ordered : (R : A → A → Type 0) (d : A) → ((i : ℕ) → Ordered R d (f i)) → (a n : ℕ)
      → ((i j : ℕ) (x y : A) → i < j → j < a + n → Memᴰ x (f i) → Memᴰ y (f j) → R x y) → Ordered R d (joined f a n)
  joined_ordered R d o a zero q = λ i j l h. absurd (not-suc-le-zero h)
  joined_ordered R d o a (suc n) q =
      append_ordered R d (f a) (joined f (a + 1) n) (o a)
      (joined_ordered R d o (a + 1) n (λ i j x y l h. q i j x y l (omega arith)))
      (λ x y m k.
      let t = joined_only (a + 1) n y k in
      let l : a + 1 ≤ t.0 = t.1 in
      let h : t.0 < a + 1 + n = t.2 in
      q a t.0 x y (omega arith) (omega arith) m t.3)
