-- Each node gets what its class has, one node after another.
use Rattle.std.proofs.Common.{◌≡◌, ℕ, ◌+◌, ◌<◌, ◌≤◌, List, length, get_or, set, Option, sym, ap, ◌∙◌, arith, length-set}
use native.Mathlib.Decide.{ℕ_discrete, dec_lt}
use Rattle.std.proofs.lemmas.List.{get_or-set_same, get_or-set_other, get_or_default}
use Rattle.book.specs.declared.row.Row.{Row}
use Rattle.book.specs.Rows.{row, class, with_choice, absent, Based}
use Rattle.pricing.specs.Nodes.{chosen_at, one_more}
use Rattle.pricing.specs.Settling.{Spread}

-- the first i nodes have what their classes have; the node i is next
module _ {C : Type 0} (xs ys : List Row) (n i : ℕ) (ch : List (Option ℕ)) (cs ds : List C) (S : Spread xs ys i ch cs ds) (based : Based xs n) (h : i < n) where
  -- its class is as it was
  pub class_still : class ys i ≡ class xs i
  class_still = ap (λ (r : Row). r.node.class) (S.past i (omega arith))

  pub class_low : class ys i ≤ i
  class_low = omega (arith, class_still, (based i h).0)

  -- the class's own row of the cost table too
  class_cost_lem : (d : C) → get_or ds (class xs i) d ≡ get_or cs (class xs i) d
  class_cost_lem d = go (dec_lt (class xs i) i)
    where
      go : Dec (class xs i < i) → get_or ds (class xs i) d ≡ get_or cs (class xs i) d
      go (yes l) = S.costs (class xs i) d l ∙ ap (λ (k : ℕ). get_or cs k d) (based i h).1
      go (no l) = S.later (class xs i) d (omega arith)

  pub spread_more : n ≤ length xs → n ≤ length ds → (w : ℕ) → w ≡ one_more (chosen_at ch (class ys i)) → (v : C) → v ≡ get_or ds (class ys i) v
      → Spread xs (set ys i (with_choice (row ys i) w)) (i + 1) ch cs (set ds i v)
  spread_more room wide w is v e =
      record {
        long = length-set ys i r ∙ S.long;
        within = λ j l. within j l (ℕ_discrete j i);
        past = λ j l. get_or-set_other ys i j r absent (omega arith) ∙ S.past j (omega arith);
        costs = λ j d l. costs j d l (ℕ_discrete j i);
        later = λ j d l. get_or-set_other ds i j v d (omega arith) ∙ S.later j d (omega arith);
      }
    where
      r : Row
      r = with_choice (row ys i) w

      within : (j : ℕ) → j < i + 1 → Dec (j ≡ i) → row (set ys i r) j ≡ with_choice (row xs j) (one_more (chosen_at ch (class xs j)))
      within j l (yes q) =
          ap (row (set ys i r)) q ∙ get_or-set_same ys i r absent (omega (arith, S.long))
          ∙ ap (with_choice (row ys i)) is
          ∙ ap (λ (x : Row). with_choice x (one_more (chosen_at ch x.node.class))) (S.past i (omega arith))
          ∙ ap (λ (m : ℕ). with_choice (row xs m) (one_more (chosen_at ch (class xs m)))) (sym q)
      within j l (no q) = get_or-set_other ys i j r absent q ∙ S.within j (omega arith)

      costs : (j : ℕ) (d : C) → j < i + 1 → Dec (j ≡ i) → get_or (set ds i v) j d ≡ get_or cs (class xs j) d
      costs j d l (yes q) =
          ap (λ (m : ℕ). get_or (set ds i v) m d) q ∙ get_or-set_same ds i v d (omega arith) ∙ e
          ∙ get_or_default ds (class ys i) v d (omega (arith, class_low))
          ∙ ap (λ (m : ℕ). get_or ds m d) class_still ∙ class_cost_lem d
          ∙ ap (λ (m : ℕ). get_or cs (class xs m) d) (sym q)
      costs j d l (no q) = get_or-set_other ds i j v d q ∙ S.costs j d (omega arith)
