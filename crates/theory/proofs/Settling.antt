-- Choosing a cheapest node that can be chosen keeps the choices right, and while a class is not done some node can be chosen.
use Rattle.std.proofs.Common.{◌≡◌, ℕ, zero, suc, ◌<◌, ◌≤◌, Bool, true, false, ◌≢◌, ◌⊎◌, length, sym, refl, ap, ◌∙◌, subst, ap₂, inl, inr, not-suc-le-zero, arith}
use native.Mathlib.Decide.{ℕ_discrete}
use Rattle.theory.specs.Tables.{Shape, atom, unary, binary, Table, PartsFirst, shape_at, EachPart}
use Rattle.theory.specs.Costs.{Rule, RuleLaws, AtMost, cost_over, Settled}
use Rattle.theory.specs.Steps.{Underway, Next, SetAt, Settling}
use Rattle.theory.proofs.Tables.{each_map, each_both}
use Rattle.theory.proofs.Costs.{at_most_trans}

-- a test is not both true and false
clash : {b : Bool} → b ≡ true → b ≡ false → ⊥
clash {b} p q = let z : ◌≡◌ {A = ℕ} 0 1 = cc in omega arith

start : {C : Type 0} (rule : Rule C) (t : Table) (class : ℕ → ℕ) (choice rank : ℕ → ℕ) (cost : ℕ → C)
    → Underway rule t class (λ k. false) choice rank cost 0
start rule t class choice rank cost =
    record {
      node = λ i h e. absurd (clash e refl);
      own = λ i h e. absurd (clash e refl);
      early = λ i h e. absurd (clash e refl);
      earlier = λ i h e. absurd (clash e refl);
      adds = λ i h e. absurd (clash e refl);
      ordered = λ i j h l e f r. absurd (clash e refl);
      cheapest = λ i h e p. absurd (clash e refl);
      front = λ i j h l e f p. absurd (clash e refl);
    }

module _ (t : Table) (class : ℕ → ℕ) (done : ℕ → Bool) (lower : PartsFirst t) where
  abbrev AllDone : Shape → Type 0
  AllDone x = EachPart (λ p. done (class p) ≡ true) x

  -- a node before i whose class is not done
  abbrev OpenBefore : ℕ → Type 0
  OpenBefore i = (p : ℕ) × (p < i) × (done (class p) ≡ false)

  -- every part is done, or one is not
  parts : (i : ℕ) (x : Shape) → EachPart (λ p. p < i) x → AllDone x ⊎ OpenBefore i
  parts i (atom s) l = inl tt
  parts i (unary s p) l = go (done (class p)) refl
    where
      go : (v : Bool) → done (class p) ≡ v → (done (class p) ≡ true) ⊎ OpenBefore i
      go true e = inl e
      go false e = inr (p, l, e)
  parts i (binary s p q) l = go (done (class p)) refl (done (class q)) refl
    where
      go : (v : Bool) → done (class p) ≡ v → (w : Bool) → done (class q) ≡ w → ((done (class p) ≡ true) × (done (class q) ≡ true)) ⊎ OpenBefore i
      go false e w f = inr (p, l.0, e)
      go true e false f = inr (q, l.1, f)
      go true e true f = inl (e, f)

  -- a node that can be chosen
  abbrev Found : Type 0
  Found = (m : ℕ) × (m < length t) × (done (class m) ≡ false) × AllDone (shape_at t m)

  goes_from : (f i : ℕ) → i < f → i < length t → done (class i) ≡ false → Found
  goes_from zero i l h e = absurd (not-suc-le-zero l)
  goes_from (suc f) i l h e = go (parts i (shape_at t i) (lower i h)) (λ p k d. goes_from f p (omega arith) (omega arith) d)
    where
      go : AllDone (shape_at t i) ⊎ OpenBefore i → ((p : ℕ) → p < i → done (class p) ≡ false → Found) → Found
      go (inl r) ih = (i, h, e, r)
      go (inr r) ih = ih r.0 r.1 r.2

  goes_on : (i : ℕ) → i < length t → done (class i) ≡ false → Found
  goes_on i h e = goes_from (suc i) i (omega arith) h e

finish : {C : Type 0} (rule : Rule C) (t : Table) (class : ℕ → ℕ) (done : ℕ → Bool) (choice rank : ℕ → ℕ) (cost : ℕ → C) (now : ℕ)
    → PartsFirst t → Underway rule t class done choice rank cost now → ((i : ℕ) → i < length t → done (class i) ≡ true)
    → Settled rule t class choice rank cost
finish rule t class done choice rank cost now lower underway all =
    record {
      node = λ i h. underway.node i h (all i h);
      own = λ i h. underway.own i h (all i h);
      earlier = λ i h.
          each_map (λ p. (done (class p) ≡ true) × (rank (class p) < rank (class i))) (λ p. rank (class p) < rank (class i)) (λ p e. e.1)
          (shape_at t (choice (class i))) (underway.earlier i h (all i h));
      adds = λ i h. underway.adds i h (all i h);
      ordered = λ i j h l r. underway.ordered i j h l (all i h) (all j l) r;
      cheapest = λ i h e. underway.cheapest i h (all i h)
          (each_both (λ p. p < i) (λ p. rank (class p) < rank (class i)) (λ p. (done (class p) ≡ true) × (rank (class p) < rank (class i)))
          (λ p l r. (all p (omega arith), r)) (shape_at t i) (lower i h) e);
    }

-- one step: node m is chosen, and the primed functions are those after it
module _ {C : Type 0} (rule : Rule C) (laws : RuleLaws rule) (t : Table) (class : ℕ → ℕ)
    (done : ℕ → Bool) (choice rank : ℕ → ℕ) (cost : ℕ → C) (now : ℕ) (lower : PartsFirst t)
    (underway : Underway rule t class done choice rank cost now) (m : ℕ) (next : Next rule t class done cost m)
    (done' : ℕ → Bool) (choice' rank' : ℕ → ℕ) (cost' : ℕ → C)
    (done_set : SetAt done done' (class m) true) (choice_set : SetAt choice choice' (class m) m) (rank_set : SetAt rank rank' (class m) now)
    (cost_set : SetAt cost cost' (class m) (cost_over rule (λ p. cost (class p)) (shape_at t m))) where
  abbrev new_cost : C
  new_cost = cost_over rule (λ p. cost (class p)) (shape_at t m)

  abbrev Done : ℕ → Type 0
  Done p = done (class p) ≡ true

  abbrev Done' : ℕ → Type 0
  Done' p = done' (class p) ≡ true

  -- p's class is done, and was so before that of i
  abbrev Earlier : ℕ → ℕ → Type 0
  Earlier i p = (done (class p) ≡ true) × (rank (class p) < rank (class i))

  abbrev Earlier' : ℕ → ℕ → Type 0
  Earlier' i p = (done' (class p) ≡ true) × (rank' (class p) < rank' (class i))

  -- a class that was done before the step, and one that the step did
  pub record DoneBefore (k : ℕ) : Type 0 where
    pub apart : k ≢ class m
    pub done_is : done k ≡ true
    pub choice_is : choice' k ≡ choice k
    pub rank_is : rank' k ≡ rank k
    pub cost_is : cost' k ≡ cost k

  pub record DoneNow (k : ℕ) : Type 0 where
    pub here : k ≡ class m
    pub choice_is : choice' k ≡ m
    pub rank_is : rank' k ≡ now
    pub cost_is : cost' k ≡ new_cost

  abbrev DoneEither : ℕ → Type 0
  DoneEither k = DoneNow k ⊎ DoneBefore k

  done_before : (k : ℕ) → done k ≡ true → DoneBefore k
  done_before k e =
      let n : k ≢ class m = λ f. clash e (ap done f ∙ next.open_yet) in
      record { apart = n; done_is = e; choice_is = choice_set.other k n; rank_is = rank_set.other k n; cost_is = cost_set.other k n }

  when_done : (k : ℕ) → done' k ≡ true → DoneEither k
  when_done k e = go (ℕ_discrete k (class m))
    where
      go : Dec (k ≡ class m) → DoneEither k
      go (yes f) =
          inl (record {
            here = f;
            choice_is = ap choice' f ∙ choice_set.here;
            rank_is = ap rank' f ∙ rank_set.here;
            cost_is = ap cost' f ∙ cost_set.here;
          })
      go (no f) = inr (done_before k (sym (done_set.other k f) ∙ e))

  still : (k : ℕ) → done k ≡ true → done' k ≡ true
  still k e = done_set.other k (done_before k e).apart ∙ e

  still_open : (k : ℕ) → done' k ≡ false → done k ≡ false
  still_open k e = go (ℕ_discrete k (class m))
    where
      go : Dec (k ≡ class m) → done k ≡ false
      go (yes f) = absurd (clash (ap done' f ∙ done_set.here) e)
      go (no f) = sym (done_set.other k f) ∙ e

  -- what a shape over done parts costs is as it was
  cost_same : (x : Shape) → EachPart Done x → cost_over rule (λ p. cost' (class p)) x ≡ cost_over rule (λ p. cost (class p)) x
  cost_same (atom s) e = refl
  cost_same (unary s p) e = ap (rule.cost_one s) (done_before (class p) e).cost_is
  cost_same (binary s p q) e = ap₂ (rule.cost_two s) (done_before (class p) e.0).cost_is (done_before (class q) e.1).cost_is

  -- each fact that choices underway are to meet, after the step
  node : (i : ℕ) → i < length t → DoneEither (class i) → choice' (class i) < length t
  node i h (inl s) = omega (arith, next.here)
  node i h (inr s) = omega (arith, underway.node i h s.done_is)

  own : (i : ℕ) → i < length t → DoneEither (class i) → class (choice' (class i)) ≡ class i
  own i h (inl s) = cc
  own i h (inr s) = let e = underway.own i h s.done_is in cc

  early : (i : ℕ) → i < length t → DoneEither (class i) → rank' (class i) < suc now
  early i h (inl s) = omega arith
  early i h (inr s) = omega (arith, underway.early i h s.done_is)

  earlier : (i : ℕ) → i < length t → DoneEither (class i)
      → EachPart (Earlier' i) (shape_at t (choice' (class i)))
  earlier i h (inl s) =
      subst (λ (n : ℕ). EachPart (Earlier' i) (shape_at t n)) (sym s.choice_is)
      (each_both (λ p. p < m) Done (Earlier' i)
      (λ p l e. (still (class p) e, omega (arith, next.here, (done_before (class p) e).rank_is, underway.early p (omega (arith, next.here)) e)))
      (shape_at t m) (lower m next.here) next.ready)
  earlier i h (inr s) =
      subst (λ (n : ℕ). EachPart (Earlier' i) (shape_at t n)) (sym s.choice_is)
      (each_map (Earlier i) (Earlier' i)
      (λ p e. (still (class p) e.0, omega (arith, (done_before (class p) e.0).rank_is)))
      (shape_at t (choice (class i))) (underway.earlier i h s.done_is))

  adds : (i : ℕ) → i < length t → DoneEither (class i) → cost' (class i) ≡ cost_over rule (λ p. cost' (class p)) (shape_at t (choice' (class i)))
  adds i h (inl s) =
      s.cost_is ∙ sym (cost_same (shape_at t m) next.ready) ∙ ap (λ (n : ℕ). cost_over rule (λ p. cost' (class p)) (shape_at t n)) (sym s.choice_is)
  adds i h (inr s) =
      let e = each_map (Earlier i) Done (λ p e. e.0) (shape_at t (choice (class i))) (underway.earlier i h s.done_is) in
      s.cost_is ∙ underway.adds i h s.done_is ∙ sym (cost_same (shape_at t (choice (class i))) e)
      ∙ ap (λ (n : ℕ). cost_over rule (λ p. cost' (class p)) (shape_at t n)) (sym s.choice_is)

  -- the new cost is the highest yet
  peak : (i : ℕ) → i < length t → DoneEither (class i) → AtMost rule (cost' (class i)) new_cost
  peak i h (inl s) = let e = laws.irreflexive new_cost in let f = s.cost_is in cc
  peak i h (inr s) = let e = underway.front i m h next.here s.done_is next.open_yet next.ready in let f = s.cost_is in cc

  ordered : (i j : ℕ) → i < length t → j < length t → DoneEither (class i) → DoneEither (class j) → rank' (class i) ≤ rank' (class j)
      → AtMost rule (cost' (class i)) (cost' (class j))
  ordered i j h l v (inl s) r = let e = peak i h v in let f = s.cost_is in cc
  ordered i j h l (inl v) (inr s) r = absurd (omega (arith, underway.early j l s.done_is))
  ordered i j h l (inr v) (inr s) r =
      let e = underway.ordered i j h l v.done_is s.done_is (omega arith) in
      let f = s.cost_is in
      let g = v.cost_is in cc

  -- a part of a rank below now was done before the step
  before : (p : ℕ) → done' (class p) ≡ true → rank' (class p) < now → DoneBefore (class p)
  before p e r = go (when_done (class p) e)
    where
      go : DoneEither (class p) → DoneBefore (class p)
      go (inl s) = absurd (omega arith)
      go (inr s) = s

  cheapest : (i : ℕ) → i < length t → DoneEither (class i)
      → EachPart (Earlier' i) (shape_at t i)
      → AtMost rule (cost' (class i)) (cost_over rule (λ p. cost' (class p)) (shape_at t i))
  cheapest i h (inl s) b =
      let d = each_map (Earlier' i) Done
      (λ p e. (before p e.0 (omega arith)).done_is) (shape_at t i) b in
      let e = next.best i h (ap done s.here ∙ next.open_yet) d in
      let f = cost_same (shape_at t i) d in
      let g = s.cost_is in cc
  cheapest i h (inr s) b =
      let r = underway.early i h s.done_is in
      let d = each_map (Earlier' i) (Earlier i)
      (λ p e. let w = before p e.0 (omega arith) in (w.done_is, omega arith)) (shape_at t i) b in
      let d' = each_map (Earlier i) Done (λ p e. e.0) (shape_at t i) d in
      let e = underway.cheapest i h s.done_is d in
      let f = cost_same (shape_at t i) d' in
      let g = s.cost_is in cc

  -- a node that could be chosen before the step costs no less than the new cost
  best_as : (j : ℕ) (x : Shape) → j < length t → done (class j) ≡ false → shape_at t j ≡ x → EachPart Done x
      → AtMost rule new_cost (cost_over rule (λ p. cost' (class p)) x)
  best_as j x l o e d =
      let b = next.best j l o (subst (EachPart Done) (sym e) d) in
      let f = cost_same x d in
      let g = ap (cost_over rule (λ p. cost (class p))) e in cc

  -- nor does one that can be chosen since
  rise : (j : ℕ) (x : Shape) → j < length t → done (class j) ≡ false → shape_at t j ≡ x → EachPart Done' x
      → AtMost rule new_cost (cost_over rule (λ p. cost' (class p)) x)
  rise j (atom s) l o e d = best_as j (atom s) l o e tt
  rise j (unary s p) l o e d = go (when_done (class p) d)
    where
      go : DoneEither (class p) → AtMost rule new_cost (rule.cost_one s (cost' (class p)))
      go (inl v) = let w = laws.weight_one s new_cost in let f = v.cost_is in cc
      go (inr v) = best_as j (unary s p) l o e v.done_is
  rise j (binary s p q) l o e d = go (when_done (class p) d.0) (when_done (class q) d.1)
    where
      go : DoneEither (class p) → DoneEither (class q) → AtMost rule new_cost (rule.cost_two s (cost' (class p)) (cost' (class q)))
      go (inl v) v' = let w = laws.weight_left s new_cost (cost' (class q)) in let f = v.cost_is in cc
      go (inr v) (inl v') = let w = laws.weight_right s (cost' (class p)) new_cost in let f = v'.cost_is in cc
      go (inr v) (inr v') = best_as j (binary s p q) l o e (v.done_is, v'.done_is)

  step : Underway rule t class done' choice' rank' cost' (suc now)
  step =
      record {
        node = λ i h e. node i h (when_done (class i) e);
        own = λ i h e. own i h (when_done (class i) e);
        early = λ i h e. early i h (when_done (class i) e);
        earlier = λ i h e. earlier i h (when_done (class i) e);
        adds = λ i h e. adds i h (when_done (class i) e);
        ordered = λ i j h l e f r. ordered i j h l (when_done (class i) e) (when_done (class j) f) r;
        cheapest = λ i h e b. cheapest i h (when_done (class i) e) b;
        front = λ i j h l e o d.
            at_most_trans rule laws (cost' (class i)) new_cost (cost_over rule (λ p. cost' (class p)) (shape_at t j))
            (peak i h (when_done (class i) e)) (rise j (shape_at t j) l (still_open (class j) o) refl d);
      }

pub settling : (C : Type 0) → Settling C
settling C = record { start = start; goes_on = goes_on; step = step; finish = finish }
