-- What a queue holds after a push and a pop, and that it stays in order.
use Rattle.std.proofs.Common.{◌≡◌, ℕ, ◌+◌, ◌-◌, ◌<◌, Bool, false, List, [], ◌∷◌, ◌++◌, length, get_or, take, set, sym, ap, ◌∙◌, subst, arith, length-set, get_or-set_other}
use Rattle.std.specs.Cmp.{IsStrictWeakOrder}
use Rattle.std.specs.List.Sorted.{IsPermutation}
use Rattle.std.specs.List.{swap_remove}
use Rattle.std.proofs.Permutation.{taken_at}
use Rattle.std.proofs.lemmas.List.{take_more_set, take_at, take-take, take-set-le, get_or-take, get_or_append_left, length-take-le, length-append, get_or_default}
use Rattle.std.proofs.Math.Seq.{take-set-lt}
use Rattle.std.proofs.ByRecursion.{all_from_every}
use Rattle.std.proofs.lemmas.List.Sorted.{IsPermutation-sym, IsPermutation-trans, IsPermutation-cons, IsPermutation-to_front, length_permutation}
use Rattle.queue.specs.declared.Entry.{Entry}
use Rattle.queue.specs.Queues.{before, after, Heaped, OrderedIn, First, Rising, Sinking}
use Rattle.queue.proofs.Sifts.{agrees, top, Places}

module _ {C : Type 0} (below : C → C → Bool) where
  rest_order : (ys rest : List (Entry C)) (n : ℕ) → length ys ≡ n → Heaped below (length ys) ys → OrderedIn below n (ys ++ rest)
  rest_order ys rest n long h = (simp length-append (omega arith), agrees (after below) ys (ys ++ rest) 0 (length ys) n (omega arith) (λ i d a b. get_or_append_left ys rest d i (omega arith)) h)

  -- what is lent to `sift_up` was heaped but for the last: m is the new count
  rising : (es : List (Entry C)) (n m : ℕ) (e : Entry C) → m ≡ n + 1 → n < length es → OrderedIn below n es → Rising below (take m (set es n e))
  rising es n m e is in' s k long =
      let l = length-take-le m (set es n e) (omega (arith, length-set es n e)) in
      agrees (after below) es (take m (set es n e)) 0 n k (omega arith) (λ i d a b. get_or-take m (set es n e) i d (omega arith) ∙ get_or-set_other es n i e d (omega arith)) s.1

  pub push_order : (es ys rest : List (Entry C)) (n m : ℕ) (e : Entry C) → m ≡ n + 1 → n < length es → IsPermutation (take m (set es n e)) ys
      → (Rising below (take m (set es n e)) → Heaped below (length ys) ys) → OrderedIn below n es → OrderedIn below (n + 1) (ys ++ rest)
  push_order es ys rest n m e is in' s sifted o =
      let l = length-take-le m (set es n e) (omega (arith, length-set es n e)) in
      rest_order ys rest (n + 1) (length_permutation _ _ s ∙ l ∙ is) (sifted (rising es n m e is in' o))

  -- what is lent to `sift_down` was heaped but for the first
  sinking : (es zs : List (Entry C)) (n m : ℕ) → m ≡ n → n < length es → length zs ≡ length es → Places es zs 0 n
      → OrderedIn below (n + 1) es → Sinking below (take m zs)
  sinking es zs n m is in' long s h =
      let l = length-take-le m zs (omega arith) in
      agrees (after below) es (take m zs) 1 (n + 1) (length (take m zs)) (omega arith) (λ i d a b. get_or-take m zs i d (omega arith) ∙ s.2 i d (omega arith) (omega arith)) (λ p k d lo. h.1 p k d (omega arith))

  pub pop_order : (es zs ys rest : List (Entry C)) (c n m : ℕ) → c ≡ n + 1 → m ≡ n → n < length es → length zs ≡ length es
      → Places es zs 0 n → IsPermutation (take m zs) ys → (Sinking below (take m zs) → Heaped below (length ys) ys) → OrderedIn below c es
      → OrderedIn below n (ys ++ rest)
  pop_order es zs ys rest c n m ic im in' long p s sifted o =
      let l = length-take-le m zs (omega arith) in
      rest_order ys rest n (length_permutation _ _ s ∙ l ∙ im) (sifted (sinking es zs n m im in' long p (subst (λ k. OrderedIn below k es) ic o)))

  -- the entry at the top goes first
  pub top_first : IsStrictWeakOrder (after below) → (es : List (Entry C)) (c : ℕ) (x : Entry C) → 0 < c → x ≡ get_or es 0 x → OrderedIn below c es
      → First below x (take c es)
  top_first o es c x some is h =
      let l = length-take-le c es h.0 in
      let in' = h.0 in
      all_from_every (λ y. before below y x ≡ false) (take c es) (λ k d z a. ap (λ v. after below v (get_or (take c es) k d)) (is ∙ get_or_default es 0 x d (omega arith))
      ∙ ap (after below (get_or es 0 d)) (get_or-take c es k d (omega arith)) ∙ top (after below) o es c d h.1 k k (omega arith) (omega arith))

module _ {C : Type 0} where
  pub pushed : (es ys rest : List (Entry C)) (n m : ℕ) (e : Entry C) → m ≡ n + 1 → n < length es → IsPermutation (take m (set es n e)) ys
      → IsPermutation (e ∷ take n es) (take (n + 1) (ys ++ rest))
  pushed es ys rest n m e is in' s =
      let l = length-take-le m (set es n e) (omega (arith, length-set es n e)) in
      let long : length ys ≡ n + 1 = length_permutation _ _ s ∙ l ∙ is in
      let p : take m (set es n e) ≡ take n es ++ e ∷ [] = ap (λ k. take k (set es n e)) is ∙ take_more_set es n e in' in
      subst (IsPermutation (e ∷ take n es)) (sym (take_at ys rest (n + 1) long)) (IsPermutation-trans _ _ _ (IsPermutation-sym _ _ (IsPermutation-to_front (take n es) e)) (subst (λ l. IsPermutation l ys) p s))

module _ {X : Type 0} where
  without : (es zs : List X) (n : ℕ) (x : X) → n < length es → zs ≡ set (set es 0 (get_or es n x)) n (get_or es 0 x)
      → swap_remove (take (n + 1) es) 0 x ≡ take n zs
  without es zs n x in' is =
      let l : length (take (n + 1) es) - 1 ≡ n = omega (arith, length-take-le (n + 1) es (omega arith)) in
      ap (λ k. take k (set (take (n + 1) es) 0 (get_or (take (n + 1) es) k x))) l
      ∙ ap (λ v. take n (set (take (n + 1) es) 0 v)) (get_or-take (n + 1) es n x (omega arith))
      ∙ ap (take n) (sym (take-set-lt (n + 1) es 0 (get_or es n x) (omega arith)))
      ∙ take-take n (n + 1) (set es 0 (get_or es n x)) (omega arith)
      ∙ sym (ap (take n) is ∙ take-set-le n (set es 0 (get_or es n x)) n (get_or es 0 x) (omega arith))

module _ {C : Type 0} where
  pub popped : (es zs ys rest : List (Entry C)) (c n m : ℕ) (x : Entry C) → c ≡ n + 1 → m ≡ n → n < length es → x ≡ get_or es 0 x
      → ((d : Entry C) → zs ≡ set (set es 0 (get_or es n d)) n (get_or es 0 d)) → length zs ≡ length es → IsPermutation (take m zs) ys
      → IsPermutation (take c es) (x ∷ take n (ys ++ rest))
  popped es zs ys rest c n m x ic im in' first is same s =
      let l = length-take-le m zs (omega arith) in
      let long : length ys ≡ n = length_permutation _ _ s ∙ l ∙ im in
      let lc = length-take-le c es (omega arith) in
      let w : swap_remove (take c es) 0 x ≡ take m zs = ap (λ k. swap_remove (take k es) 0 x) ic ∙ without es zs n x in' (is x) ∙ ap (λ k. take k zs) (sym im) in
      let f : x ≡ get_or (take c es) 0 x = first ∙ sym (get_or-take c es 0 x (omega arith)) in
      IsPermutation-trans _ _ _ (taken_at (take c es) 0 x (omega arith) f)
      (subst (λ v. IsPermutation (x ∷ swap_remove (take c es) 0 x) (x ∷ v)) (sym (take_at ys rest n long)) (IsPermutation-cons x _ _ (subst (λ v. IsPermutation v ys) (sym w) s)))

  -- an entry that is read field by field is the entry
  pub read_whole : (es : List (Entry C)) (a b : Entry C) → 0 < length es
      → let x : Entry C = record { cost = (get_or es 0 a).cost; node = (get_or es 0 b).node } in x ≡ get_or es 0 x
  read_whole es a b some =
      let x : Entry C = record { cost = (get_or es 0 a).cost; node = (get_or es 0 b).node } in
      let p = get_or_default es 0 a x some in
      let q = get_or_default es 0 b x some in
      λ k. record { cost = (p k).cost; node = (q k).node }
