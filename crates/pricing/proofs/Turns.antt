-- What the lists of pricing and the queue hold between two stages, and that offering nodes to the queue keeps it.
use Rattle.std.proofs.Common.{◌≡◌, ℕ, ◌<◌, ◌≤◌, Bool, true, false, cond, ◌⊎◌, List, [], ◌∷◌, length, get_or, Option, Some, None, is_some, sym, refl, ap, ◌∙◌, subst, ap₂, inl, inr, arith}
use Rattle.std.specs.List.{ContainsAt as Has}
use Rattle.std.proofs.lemmas.Bool.{cond-true, both_ways}
use Rattle.queue.specs.declared.Entry.{Entry}
use Rattle.theory.specs.Tables.{Shape, atom, unary, binary, Table, PartsFirst, shape_at, EachPart}
use Rattle.theory.specs.Costs.{Rule, cost_over}
use Rattle.theory.specs.Stages.{done_in, choice_in, cost_in, cost_at, Ready, Staged, begin, Stages}
use Rattle.theory.proofs.Tables.{each_map, each_both}
use Rattle.theory.proofs.Stages.{done_other, all_done}
use Rattle.pricing.specs.declared.chain.Side.TheVariants.{Left, Right}
use Rattle.pricing.specs.Nodes.{settled, chosen_at, ready_by}
use Rattle.pricing.specs.Chains.{key_by}
use Rattle.pricing.specs.Offers.{flag, entry, Offered}

-- the classes of the parts of node j are settled
abbrev pub PartsDone : Table → (ℕ → ℕ) → List ℕ → ℕ → Type 0
PartsDone t class ms j = EachPart (λ p. done_in class ms (class p) ≡ true) (shape_at t j)

-- by the stages ms: ch has the choices and cs the costs of the classes that are settled, and of the nodes with flags in F those that
-- are ready are in q, each at its cost
pub record Due {C : Type 0} (rule : Rule C) (t : Table) (class : ℕ → ℕ) (ms : List ℕ) (ch : List (Option ℕ)) (cs : List C) (F : List Bool) (q : List (Entry C)) : Type 0 where
  pub staged : Staged rule t class ms
  pub chosen : (k : ℕ) → k < length t → chosen_at ch k ≡ cond (done_in class ms k) (Some (choice_in class ms k)) None
  pub priced : (k : ℕ) (d : C) → k < length t → done_in class ms k ≡ true → get_or cs k d ≡ cost_in rule t class ms k
  pub flagged : (j : ℕ) → j < length t → flag F j ≡ true → PartsDone t class ms j
  pub sound : (x : Entry C) → Has q x → (x.node < length t) × (flag F x.node ≡ true) × (x.cost ≡ cost_at rule t class ms x.node)
  pub complete : (j : ℕ) → Ready t class ms j → flag F j ≡ true → Has q (entry (cost_at rule t class ms j) j)

-- every node whose parts are done has its flag
abbrev pub Full : Table → (ℕ → ℕ) → List ℕ → List Bool → Type 0
Full t class ms F = (j : ℕ) → j < length t → PartsDone t class ms j → flag F j ≡ true

-- what the lists say of node j: whether its parts are done, and what it costs
abbrev pub ready_from : Table → (ℕ → ℕ) → List (Option ℕ) → ℕ → Bool
ready_from t class ch j = ready_by (λ p. settled ch (class p)) (shape_at t j)

abbrev pub cost_by : {C : Type 0} → Rule C → Table → (ℕ → ℕ) → List C → ℕ → C
cost_by rule t class cs j = cost_over rule (λ p. get_or cs (class p) (rule.cost_alone [])) (shape_at t j)

module _ (f : ℕ → Bool) where
  each_ready : (x : Shape) → ready_by f x ≡ true → EachPart (λ p. f p ≡ true) x
  each_ready (atom s) e = tt
  each_ready (unary s p) e = e
  each_ready (binary s p q) e = go (f p) refl e
    where
      go : (v : Bool) → f p ≡ v → cond v (f q) false ≡ true → (f p ≡ true) × (f q ≡ true)
      go true a b = (a, b)
      go false a b = absurd (both_ways false refl b)

  ready_each : (x : Shape) → EachPart (λ p. f p ≡ true) x → ready_by f x ≡ true
  ready_each (atom s) e = refl
  ready_each (unary s p) e = e
  ready_each (binary s p q) e = cond-true (f p) (f q) false e.0 ∙ e.1

pub cost_over_same : {C : Type 0} (rule : Rule C) (f g : ℕ → C) (x : Shape) → EachPart (λ p. f p ≡ g p) x → cost_over rule f x ≡ cost_over rule g x
cost_over_same rule f g (atom s) e = refl
cost_over_same rule f g (unary s p) e = ap (rule.cost_one s) e
cost_over_same rule f g (binary s p q) e = ap₂ (rule.cost_two s) e.0 e.1

module _ {C : Type 0} (rule : Rule C) (t : Table) (class : ℕ → ℕ) where
  -- nothing is settled, and nothing is in the queue
  pub start : (ch : List (Option ℕ)) (cs : List C) (F : List Bool) → ((k : ℕ) → k < length t → chosen_at ch k ≡ None) → ((k : ℕ) → k < length t → flag F k ≡ false)
      → Due rule t class [] ch cs F []
  start ch cs F clear low =
      record {
        staged = begin;
        chosen = clear;
        priced = λ k d h e. absurd (both_ways false refl e);
        flagged = λ j h e. absurd (both_ways (flag F j) (low j h) e);
        sound = λ x h. absurd (omega (arith, h.1));
        complete = λ j r e. absurd (both_ways (flag F j) (low j r.here) e);
      }

module _ {C : Type 0} {rule : Rule C} {t : Table} {class : ℕ → ℕ} (lower : PartsFirst t) (within : (i : ℕ) → i < length t → class i < length t)
    {ms : List ℕ} {ch : List (Option ℕ)} {cs : List C} {F : List Bool} {q : List (Entry C)} (D : Due rule t class ms ch cs F q) where
  parts_in : (j : ℕ) → j < length t → EachPart (λ p. class p < length t) (shape_at t j)
  parts_in j h = each_map (λ p. p < j) (λ p. class p < length t) (λ p l. within p (omega arith)) (shape_at t j) (lower j h)

  -- ch says which classes are settled
  pub settled_is : (k : ℕ) → k < length t → settled ch k ≡ done_in class ms k
  settled_is k h = ap is_some (D.chosen k h) ∙ go (done_in class ms k)
    where
      go : (v : Bool) → is_some (cond v (Some (choice_in class ms k)) None) ≡ v
      go true = refl
      go false = refl

  ready_done : (j : ℕ) → j < length t → ready_from t class ch j ≡ true → PartsDone t class ms j
  ready_done j h e =
      each_both (λ p. class p < length t) (λ p. settled ch (class p) ≡ true) (λ p. done_in class ms (class p) ≡ true)
      (λ p l s. sym (settled_is (class p) l) ∙ s) (shape_at t j) (parts_in j h) (each_ready (λ p. settled ch (class p)) (shape_at t j) e)

  pub done_ready : (j : ℕ) → j < length t → PartsDone t class ms j → ready_from t class ch j ≡ true
  done_ready j h r =
      ready_each (λ p. settled ch (class p)) (shape_at t j)
      (each_both (λ p. class p < length t) (λ p. done_in class ms (class p) ≡ true) (λ p. settled ch (class p) ≡ true)
      (λ p l s. settled_is (class p) l ∙ s) (shape_at t j) (parts_in j h) r)

  cost_is : (j : ℕ) → j < length t → PartsDone t class ms j → cost_by rule t class cs j ≡ cost_at rule t class ms j
  cost_is j h r =
      cost_over_same rule (λ p. get_or cs (class p) (rule.cost_alone [])) (λ p. cost_in rule t class ms (class p)) (shape_at t j)
      (each_both (λ p. class p < length t) (λ p. done_in class ms (class p) ≡ true)
      (λ p. get_or cs (class p) (rule.cost_alone []) ≡ cost_in rule t class ms (class p))
      (λ p l s. D.priced (class p) (rule.cost_alone []) l s) (shape_at t j) (parts_in j h) r)

  -- some nodes are offered
  module _ {n : ℕ} (few : n ≤ length t) {F' : List Bool} {c c' : ℕ} {q' : List (Entry C)}
      (O : Offered n (ready_from t class ch) (cost_by rule t class cs) F F' c c' q q') where
    flagged_new : (j : ℕ) → j < length t → (v : Bool) → flag F j ≡ v → flag F' j ≡ true → PartsDone t class ms j
    flagged_new j h true e f = D.flagged j h e
    flagged_new j h false e f = ready_done j h (O.new j e f).1

    has_new : (j : ℕ) → Ready t class ms j → (v : Bool) → flag F j ≡ v → flag F' j ≡ true → Has q' (entry (cost_at rule t class ms j) j)
    has_new j r true e f = O.kept (entry (cost_at rule t class ms j) j) (D.complete j r e)
    has_new j r false e f = subst (λ (a : C). Has q' (entry a j)) (cost_is j r.here r.parts) (O.new j e f).2

    sound_new : (x : Entry C)
        → Has q x
        ⊎ ((x.node < n)
        × (flag F x.node ≡ false)
        × (flag F' x.node ≡ true)
        × (ready_from t class ch x.node ≡ true)
        × (x.cost ≡ cost_by rule t class cs x.node))
        → (x.node < length t) × (flag F' x.node ≡ true) × (x.cost ≡ cost_at rule t class ms x.node)
    sound_new x (inl h) = let s = D.sound x h in (s.0, O.up x.node s.1, s.2)
    sound_new x (inr h) =
        let l : x.node < length t = omega (arith, h.0) in
        (l, h.2, h.4 ∙ cost_is x.node l (ready_done x.node l h.3))

    pub offered : Due rule t class ms ch cs F' q'
    offered =
        record {
          staged = D.staged;
          chosen = D.chosen;
          priced = D.priced;
          flagged = λ j h e. flagged_new j h (flag F j) refl e;
          sound = λ x h. sound_new x (O.only x h);
          complete = λ j r e. has_new j r (flag F j) refl e;
        }

  -- the queue is empty
  pub finished : Full t class ms F → length q ≡ 0 → Stages rule t class ms
  finished full z =
      record {
        staged = D.staged;
        all = all_done t class ms lower
            (λ m r. omega (arith, (D.complete m r (full m r.here r.parts)).1));
      }

-- ---- which nodes have their flags

module _ (t : Table) (class : ℕ → ℕ) where
  -- those with a part of the class that node m settles are offered
  pub full_next : (ms : List ℕ) (m : ℕ) (F G : List Bool) → Full t class ms F → ((j : ℕ) → flag F j ≡ true → flag G j ≡ true)
      → ((j : ℕ) → j < length t → key_by Left class (shape_at t j) ≡ Some (class m) → PartsDone t class (m ∷ ms) j → flag G j ≡ true)
      → ((j : ℕ) → j < length t → key_by Right class (shape_at t j) ≡ Some (class m) → PartsDone t class (m ∷ ms) j → flag G j ≡ true)
      → Full t class (m ∷ ms) G
  full_next ms m F G full up left right j h r = go (shape_at t j) (λ d. up j (full j h d)) (λ e. left j h e r) (λ e. right j h e r) r
    where
      key : (p : ℕ) → done_in class ms (class p) ≡ false → done_in class (m ∷ ms) (class p) ≡ true → Some (class p) ≡ Some (class m)
      key p d e = ap Some (sym (done_other class ms m (class p) d e))

      go : (x : Shape) → (EachPart (λ p. done_in class ms (class p) ≡ true) x → flag G j ≡ true) → (key_by Left class x ≡ Some (class m) → flag G j ≡ true)
          → (key_by Right class x ≡ Some (class m) → flag G j ≡ true) → EachPart (λ p. done_in class (m ∷ ms) (class p) ≡ true) x → flag G j ≡ true
      go (atom s) old l r e = old tt
      go (unary s p) old l r e = one (done_in class ms (class p)) refl
        where
          one : (v : Bool) → done_in class ms (class p) ≡ v → flag G j ≡ true
          one true d = old d
          one false d = l (key p d e)
      go (binary s p q) old l r e = two (done_in class ms (class p)) (done_in class ms (class q)) refl refl
        where
          two : (v w : Bool) → done_in class ms (class p) ≡ v → done_in class ms (class q) ≡ w → flag G j ≡ true
          two true true d f = old (d, f)
          two true false d f = r (key q f e.1)
          two false w d f = l (key p d e.0)
