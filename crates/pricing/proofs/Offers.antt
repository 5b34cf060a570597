-- Nodes put into the queue, one and more: what is held then, and the room that is left.
use Rattle.std.proofs.Common.{◌≡◌, ℕ, zero, suc, ◌+◌, ◌<◌, ◌≤◌, Bool, true, false, ◌⊎◌, List, ◌∷◌, length, set, MatchBool, sym, refl, ap, ◌∙◌, subst, inl, inr, suc-le-suc, le_of_suc-le-suc, arith, length-set}
use native.Mathlib.Decide.{ℕ_discrete}
use Rattle.std.specs.List.{ContainsAt as Has}
use Rattle.std.specs.List.Sorted.{IsPermutation}
use Rattle.std.proofs.lemmas.List.{get_or-set_same, get_or-set_other}
use Rattle.std.proofs.lemmas.Bool.{both_ways, lt-ltb}
use Rattle.std.proofs.lemmas.Bool.Decides.{when_true}
use Rattle.std.proofs.lemmas.List.Sorted.{IsPermutation-sym}
use Rattle.std.proofs.ByRecursion.{has_shuffled}
use Rattle.theory.specs.Steps.{SetAt}
use Rattle.theory.proofs.Stages.{falses_set, falses_some}
use Rattle.queue.specs.declared.Entry.{Entry}
use Rattle.queue.specs.declared.Queue.{Queue}
use Rattle.queue.specs.Queues.{slice, held, has_room, Ordered, Pushed, Same}
use Rattle.theory.specs.Costs.{Rule}
use Rattle.book.specs.declared.nodes.Nodes.{Nodes}
use Rattle.pricing.specs.declared.settled.Settled.{Settled}
use Rattle.pricing.specs.Nodes.{links, ready_at, cost_from}
use Rattle.pricing.specs.Offers.{flag, entry, Waits, Offered, Offers}

-- ---- lists with one more in front

module _ {X : Type 0} where
  pub has_first : (x : X) (q : List X) → Has (x ∷ q) x
  has_first x q = (0, omega arith, λ d. refl)

  pub has_rest : (x : X) (q : List X) (y : X) → Has q y → Has (x ∷ q) y
  has_rest x q y h = (suc h.0, suc-le-suc h.1, h.2)

  pub has_cases : (x : X) (q : List X) (y : X) → Has (x ∷ q) y → (x ≡ y) ⊎ Has q y
  has_cases x q y (zero, l, e) = inl (e x)
  has_cases x q y (suc k, l, e) = inr (k, le_of_suc-le-suc l, e)

-- ---- flags

pub set_flag : (F : List Bool) (i : ℕ) → i < length F → SetAt (flag F) (flag (set F i true)) i true
set_flag F i h = record { here = get_or-set_same F i true false h; other = λ x n. get_or-set_other F i x true false n }

-- a flag that is not set was not
pub flag_low : (F F' : List Bool) (i : ℕ) → (flag F i ≡ true → flag F' i ≡ true) → flag F' i ≡ false → flag F i ≡ false
flag_low F F' i up e = go (flag F i) refl
  where
    go : (v : Bool) → flag F i ≡ v → flag F i ≡ false
    go true t = absurd (both_ways (flag F' i) e (up t))
    go false t = t

-- node after node: each so far that is ready has its flag, and the next one
pub seen_more : (ready : ℕ → Bool) (F F' : List Bool) (i : ℕ) → ((j : ℕ) → flag F j ≡ true → flag F' j ≡ true)
    → ((j : ℕ) → j < i → ready j ≡ true → flag F j ≡ true) → (ready i ≡ true → flag F' i ≡ true)
    → (j : ℕ) → j < i + 1 → ready j ≡ true → flag F' j ≡ true
seen_more ready F F' i up before here j h r = go (ℕ_discrete j i)
  where
    go : Dec (j ≡ i) → flag F' j ≡ true
    go (yes e) = ap (flag F') e ∙ here (ap ready (sym e) ∙ r)
    go (no n) = up j (before j (omega (arith, n)) r)

-- ---- what is offered

module _ {C : Type 0} (n : ℕ) (ready : ℕ → Bool) (cost : ℕ → C) where
  -- an entry was held, or its node is new
  abbrev Came : List Bool → List Bool → List (Entry C) → Entry C → Type 0
  Came F F' q x =
      Has q x ⊎ ((x.node < n) × (flag F x.node ≡ false) × (flag F' x.node ≡ true) × (ready x.node ≡ true) × (x.cost ≡ cost x.node))

  -- nothing
  pub offered_none : (F : List Bool) (c : ℕ) (q : List (Entry C)) → Offered n ready cost F F c c q q
  offered_none F c q =
      record {
        up = λ i e. e;
        new = λ i f t. absurd (both_ways (flag F i) f t);
        kept = λ x h. h;
        only = λ x h. inl h;
        count = refl;
      }

  -- one node
  pub offered_put : (F : List Bool) (c c' : ℕ) (q q' : List (Entry C)) (i : ℕ) (a : C) → i < n → n ≤ length F → flag F i ≡ false → ready i ≡ true
      → a ≡ cost i → c' ≡ c + 1 → IsPermutation (entry a i ∷ q) q' → Offered n ready cost F (set F i true) c c' q q'
  offered_put F c c' q q' i a here long low r is more s =
      record {
        up = λ j e. up j e (ℕ_discrete j i);
        new = λ j f t. new j f t (ℕ_discrete j i);
        kept = λ x h. has_shuffled _ _ x s (has_rest _ _ x h);
        only = λ x h. only x (has_cases _ _ x (has_shuffled _ _ x (IsPermutation-sym _ _ s) h));
        count = omega (arith, falses_set (flag F) (flag (set F i true)) i n S low here);
      }
    where
      S : SetAt (flag F) (flag (set F i true)) i true
      S = set_flag F i (omega arith)

      up : (j : ℕ) → flag F j ≡ true → Dec (j ≡ i) → flag (set F i true) j ≡ true
      up j e (yes d) = ap (flag (set F i true)) d ∙ S.here
      up j e (no d) = S.other j d ∙ e

      new : (j : ℕ) → flag F j ≡ false → flag (set F i true) j ≡ true → Dec (j ≡ i) → (j < n) × (ready j ≡ true) × Has q' (entry (cost j) j)
      new j f t (yes d) =
          let at_i : Has q' (entry (cost i) i) =
          subst (Has q') (ap (λ (v : C). entry v i) is) (has_shuffled _ _ (entry a i) s (has_first (entry a i) q)) in
          (omega arith, ap ready d ∙ r, subst (λ (k : ℕ). Has q' (entry (cost k) k)) (sym d) at_i)
      new j f t (no d) = absurd (both_ways (flag F j) f (sym (S.other j d) ∙ t))

      only : (x : Entry C) → (entry a i ≡ x) ⊎ Has q x → Came F (set F i true) q x
      only x (inl e) =
          let en : i ≡ x.node = ap (λ (y : Entry C). y.node) e in
          let ec : a ≡ x.cost = ap (λ (y : Entry C). y.cost) e in
          inr (omega arith, ap (flag F) (sym en) ∙ low, ap (flag (set F i true)) (sym en) ∙ S.here, ap ready (sym en) ∙ r, sym ec ∙ is ∙ ap cost en)
      only x (inr h) = inl h

  -- some, and then some more
  pub offered_then : (F F' F'' : List Bool) (c c' c'' : ℕ) (q q' q'' : List (Entry C)) → Offered n ready cost F F' c c' q q'
      → Offered n ready cost F' F'' c' c'' q' q'' → Offered n ready cost F F'' c c'' q q''
  offered_then F F' F'' c c' c'' q q' q'' A B =
      record {
        up = λ i e. B.up i (A.up i e);
        new = λ i f t. new i f t (flag F' i) refl;
        kept = λ x h. B.kept x (A.kept x h);
        only = λ x h. only x (B.only x h);
        count = B.count ∙ A.count;
      }
    where
      new : (i : ℕ) → flag F i ≡ false → flag F'' i ≡ true → (v : Bool) → flag F' i ≡ v
          → (i < n) × (ready i ≡ true) × Has q'' (entry (cost i) i)
      new i f t true e = let h = A.new i f e in (h.0, h.1, B.kept _ h.2)
      new i f t false e = B.new i e t

      was : (x : Entry C) → Came F F' q x → Came F F'' q x
      was x (inl h) = inl h
      was x (inr h) = inr (h.0, h.1, B.up _ h.2, h.3, h.4)

      only : (x : Entry C) → Came F' F'' q' x → Came F F'' q x
      only x (inl h) = was x (A.only x h)
      only x (inr h) = inr (h.0, flag_low F F' x.node (A.up x.node) h.1, h.2, h.3, h.4)

-- a node that was not put in, is ready, and is pushed at its cost: there was room for it, and room is left for the others
module _ {C : Type 0} (below : C → C → Bool) (n : ℕ) (ready : ℕ → Bool) (cost : ℕ → C) (F : List Bool) (q q' : Queue C) (i : ℕ) (a : C) (r : Bool)
    (W : Waits below n F q) (here : i < n) (low : flag F i ≡ false) (is_ready : ready i ≡ true) (is : a ≡ cost i)
    (granted : r ≡ has_room q) (after : MatchBool r (Pushed (entry a i) q q') (Same q q')) where
  pushed : Pushed (entry a i) q q'
  pushed =
      when_true (Pushed (entry a i) q q') (Same q q')
      (granted ∙ lt-ltb q.count (length (slice q)) (omega (arith, falses_some (flag F) i n here low, W.wide, W.space))) after

  pub offered_in : Offered n ready cost F (set F i true) q.count q'.count (held q) (held q')
  offered_in = offered_put n ready cost F q.count q'.count (held q) (held q') i a here W.flags low is_ready is pushed.count pushed.adds

  pub waits_in : Ordered below q' → length (slice q') ≡ length (slice q) → Waits below n (set F i true) q'
  waits_in order long =
      record {
        order = order;
        wide = omega (arith, W.wide);
        flags = omega (arith, W.flags, length-set F i true);
        space = omega (arith, W.space, offered_in.count);
      }

-- ---- by what is settled

module _ {C : Type 0} (rule : Rule C) (s : Settled C) where
  pub offers_none : (F : List Bool) (q : Queue C) → Offers rule s F F q q
  offers_none F q =
      offered_none (length s.nodes.rows.now) (ready_at s.nodes.rows.now (links s.chosen)) (cost_from rule s.nodes.rows.now s.costs.now) F q.count (held q)

  pub offers_then : (F F' F'' : List Bool) (q q' q'' : Queue C) → Offers rule s F F' q q' → Offers rule s F' F'' q' q'' → Offers rule s F F'' q q''
  offers_then F F' F'' q q' q'' A B =
      offered_then (length s.nodes.rows.now) (ready_at s.nodes.rows.now (links s.chosen)) (cost_from rule s.nodes.rows.now s.costs.now) F F' F''
      q.count q'.count q''.count (held q) (held q') (held q'') A B

-- the same nodes have as much room
pub waits_of : {C : Type 0} (below : C → C → Bool) (F : List Bool) (q : Queue C) (N M : Nodes) → N ≡ M → Waits below (length N.rows.now) F q
    → Waits below (length M.rows.now) F q
waits_of below F q N M e W = subst (λ (K : Nodes). Waits below (length K.rows.now) F q) e W
