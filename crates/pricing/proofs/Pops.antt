-- What taking an entry out of the queue does between two stages: its class was settled before, or its node settles it.
use Rattle.std.proofs.Common.{◌≡◌, ℕ, ◌<◌, ◌≤◌, Bool, true, false, cond, ltb, ◌≢◌, ◌⊎◌, List, ◌∷◌, length, get_or, set, Option, Some, None, sym, refl, ap, ◌∙◌, subst, ap₂, inl, inr, arith}
use native.Mathlib.Decide.{ℕ_discrete}
use Rattle.std.specs.List.{ContainsAt as Has}
use Rattle.std.specs.List.Sorted.{IsPermutation}
use Rattle.std.proofs.lemmas.List.{get_or-set_same, get_or-set_other}
use Rattle.std.proofs.lemmas.Bool.{cond-true, both_ways, ltb-false}
use Rattle.std.proofs.lemmas.List.Sorted.{IsPermutation-sym}
use Rattle.std.proofs.ByRecursion.{has_shuffled, all-has}
use Rattle.queue.specs.declared.Entry.{Entry}
use Rattle.queue.specs.Queues.{First, before}
use Rattle.theory.specs.Tables.{Table, PartsFirst, shape_at}
use Rattle.theory.specs.Costs.{Rule}
use Rattle.theory.specs.Stages.{done_in, choice_in, cost_in, cost_at, Ready, Foremost, stage}
use Rattle.theory.proofs.Tables.{each_map}
use Rattle.theory.proofs.Stages.{done_set, choice_set, cost_set, done_still, cost_at_still}
use Rattle.pricing.specs.Nodes.{settled, chosen_at}
use Rattle.pricing.specs.Offers.{flag, entry}
use Rattle.pricing.proofs.Offers.{has_first, has_rest, has_cases}
use Rattle.pricing.proofs.Turns.{PartsDone, Due, Full, settled_is}

-- an entry that goes before no other is no dearer, and where no other is dearer, it is no later
module _ {C : Type 0} (below : C → C → Bool) where
  not_below : (a b : C) (i j : ℕ) → before below (entry a i) (entry b j) ≡ false → below a b ≡ false
  not_below a b i j e = go (below a b) refl e
    where
      go : (v : Bool) → below a b ≡ v → cond v true (cond (below b a) false (ltb i j)) ≡ false → below a b ≡ false
      go true p r = absurd (both_ways true r refl)
      go false p r = p

  not_lower : (a b : C) (i j : ℕ) → before below (entry a i) (entry b j) ≡ false → below b a ≡ false → j ≤ i
  not_lower a b i j e f =
      ltb-false i j
      (ap₂ (λ v w. cond v true (cond w false (ltb i j))) (sym (not_below a b i j e)) (sym f) ∙ e)

module _ {C : Type 0} {rule : Rule C} {t : Table} {class : ℕ → ℕ} (lower : PartsFirst t) (within : (i : ℕ) → i < length t → class i < length t)
    {ms : List ℕ} {ch : List (Option ℕ)} {cs : List C} {F : List Bool} {q : List (Entry C)} (D : Due rule t class ms ch cs F q)
    (x : Entry C) (q' : List (Entry C)) (takes : IsPermutation q (x ∷ q')) where
  pub here : (x.node < length t) × (flag F x.node ≡ true) × (x.cost ≡ cost_at rule t class ms x.node)
  here = D.sound x (has_shuffled _ _ x (IsPermutation-sym _ _ takes) (has_first x q'))

  done_is : settled ch (class x.node) ≡ done_in class ms (class x.node)
  done_is = settled_is lower within D (class x.node) (within x.node here.0)

  was_held : (y : Entry C) → Has q' y → Has q y
  was_held y h = has_shuffled _ _ y (IsPermutation-sym _ _ takes) (has_rest x q' y h)

  still_held : (j : ℕ) (a : C) → j ≢ x.node → Has q (entry a j) → Has q' (entry a j)
  still_held j a n h = go (has_cases x q' (entry a j) (has_shuffled _ _ (entry a j) takes h))
    where
      go : (x ≡ entry a j) ⊎ Has q' (entry a j) → Has q' (entry a j)
      go (inl e) = absurd (n (sym (ap (λ (y : Entry C). y.node) e)))
      go (inr k) = k

  -- its class is settled already
  pub passed : settled ch (class x.node) ≡ true → Due rule t class ms ch cs F q'
  passed s =
      record {
        staged = D.staged;
        chosen = D.chosen;
        priced = D.priced;
        flagged = D.flagged;
        sound = λ y h. D.sound y (was_held y h);
        complete = λ j r e. still_held j (cost_at rule t class ms j)
            (λ f. both_ways (done_in class ms (class j)) r.open_yet (ap (λ (k : ℕ). done_in class ms (class k)) f ∙ sym done_is ∙ s))
            (D.complete j r e);
      }

  module _ (full : Full t class ms F) (first : First rule.below x q) (s : settled ch (class x.node) ≡ false) where
    open_yet : done_in class ms (class x.node) ≡ false
    open_yet = sym done_is ∙ s

    not_before : (j : ℕ) → Ready t class ms j
        → before rule.below (entry (cost_at rule t class ms j) j) (entry (cost_at rule t class ms x.node) x.node) ≡ false
    not_before j r =
        let y = entry (cost_at rule t class ms j) j in
        ap (λ (a : C). before rule.below y (entry a x.node)) (sym here.2)
        ∙ all-has (λ z. before rule.below z x ≡ false) q y first (D.complete j r (full j r.here r.parts))

    foremost : Foremost rule t class ms x.node
    foremost =
        record {
          ready = record { here = here.0; open_yet = open_yet; parts = D.flagged x.node here.0 here.1 };
          cheapest = λ j r. not_below rule.below (cost_at rule t class ms j) (cost_at rule t class ms x.node) j x.node (not_before j r);
          lowest = λ j r e. not_lower rule.below (cost_at rule t class ms j) (cost_at rule t class ms x.node) j x.node (not_before j r) e;
        }

    still : (j : ℕ) → PartsDone t class ms j → PartsDone t class (x.node ∷ ms) j
    still j r =
        each_map (λ p. done_in class ms (class p) ≡ true) (λ p. done_in class (x.node ∷ ms) (class p) ≡ true)
        (λ p e. done_still class ms x.node (class p) e) (shape_at t j) r

    cost_same : (j : ℕ) → PartsDone t class ms j → cost_at rule t class (x.node ∷ ms) j ≡ cost_at rule t class ms j
    cost_same j r = cost_at_still rule t class ms x.node j open_yet r

    remains : (j : ℕ) → Ready t class (x.node ∷ ms) j → flag F j ≡ true → Has q' (entry (cost_at rule t class (x.node ∷ ms) j) j)
    remains j r e =
        let w = D.flagged j r.here e in
        let n : class j ≢ class x.node
        = λ f. both_ways (done_in class (x.node ∷ ms) (class j)) r.open_yet (ap (done_in class (x.node ∷ ms)) f ∙ (done_set class ms x.node).here) in
        let u : Ready t class ms j
        = record { here = r.here; open_yet = sym ((done_set class ms x.node).other (class j) n) ∙ r.open_yet; parts = w } in
        subst (λ (a : C). Has q' (entry a j)) (sym (cost_same j w))
        (still_held j (cost_at rule t class ms j) (λ f. n (ap class f)) (D.complete j u e))

    choice_now : length t ≤ length ch → (k : ℕ) → k < length t → Dec (k ≡ class x.node)
        → chosen_at (set ch (class x.node) (Some x.node)) k
        ≡ cond (done_in class (x.node ∷ ms) k) (Some (choice_in class (x.node ∷ ms) k)) None
    choice_now long k h (yes e) =
        ap (λ (n : ℕ). chosen_at (set ch (class x.node) (Some x.node)) n) e
        ∙ get_or-set_same ch (class x.node) (Some x.node) None (omega (arith, within x.node here.0))
        ∙ sym (cond-true (done_in class (x.node ∷ ms) k) (Some (choice_in class (x.node ∷ ms) k)) None
        (ap (done_in class (x.node ∷ ms)) e ∙ (done_set class ms x.node).here)
        ∙ ap Some (ap (choice_in class (x.node ∷ ms)) e ∙ (choice_set class ms x.node).here))
    choice_now long k h (no e) =
        get_or-set_other ch (class x.node) k (Some x.node) None e
        ∙ D.chosen k h
        ∙ ap₂ (λ (b : Bool) (n : ℕ). cond b (Some n) None) (sym ((done_set class ms x.node).other k e)) (sym ((choice_set class ms x.node).other k e))

    priced_at : length t ≤ length cs → (k : ℕ) (d : C) → k < length t → Dec (k ≡ class x.node) → done_in class (x.node ∷ ms) k ≡ true
        → get_or (set cs (class x.node) x.cost) k d ≡ cost_in rule t class (x.node ∷ ms) k
    priced_at long k d h (yes e) f =
        ap (λ (n : ℕ). get_or (set cs (class x.node) x.cost) n d) e
        ∙ get_or-set_same cs (class x.node) x.cost d (omega (arith, within x.node here.0))
        ∙ here.2
        ∙ sym (cost_set rule t class ms x.node).here
        ∙ ap (cost_in rule t class (x.node ∷ ms)) (sym e)
    priced_at long k d h (no e) f =
        get_or-set_other cs (class x.node) k x.cost d e
        ∙ D.priced k d h (sym ((done_set class ms x.node).other k e) ∙ f)
        ∙ sym ((cost_set rule t class ms x.node).other k e)

    -- it settles its class
    pub settles : length t ≤ length ch → length t ≤ length cs
        → Due rule t class (x.node ∷ ms) (set ch (class x.node) (Some x.node)) (set cs (class x.node) x.cost) F q'
    settles long_ch long_cs =
        record {
          staged = stage D.staged foremost;
          chosen = λ k h. choice_now long_ch k h (ℕ_discrete k (class x.node));
          priced = λ k d h e. priced_at long_cs k d h (ℕ_discrete k (class x.node)) e;
          flagged = λ j h e. still j (D.flagged j h e);
          sound = λ y h.
              let v = D.sound y (was_held y h) in
              (v.0, v.1, v.2 ∙ sym (cost_same y.node (D.flagged y.node v.0 v.1)));
          complete = remains;
        }
