-- Classes that are settled in stages are settled, there is one way to go through the stages, and costs can be builds.
use Rattle.std.proofs.Common.{◌≡◌, ℕ, zero, suc, ◌+◌, ◌<◌, ◌≤◌, Bool, true, false, cond, eqb, List, [], ◌∷◌, length, sym, refl, ap, ◌∙◌, subst, ap₂, not-suc-le-zero, arith}
use native.Mathlib.Decide.{ℕ_discrete, dec_lt}
use Rattle.std.proofs.lemmas.Bool.{eqb-true, eq-eqb, ne_eqb, cond-true, cond-false, both_ways}
use Rattle.theory.specs.Builds.{Build}
use Rattle.theory.specs.Tables.{Shape, atom, unary, binary, Table, PartsFirst, shape_at, EachPart}
use Rattle.theory.specs.Costs.{Rule, RuleLaws, Settled, cost_of, cost_over, by_builds, cheaper_by}
use Rattle.theory.specs.Steps.{Underway, Next, SetAt, falses}
use Rattle.theory.specs.Stages.{done_in, choice_in, cost_in, cost_at, Ready, Foremost, Staged, begin, stage, Stages}
use Rattle.theory.proofs.Settling.{settling}

-- the stage at which a class was settled, the first being 0
abbrev pub rank_in : (ℕ → ℕ) → List ℕ → ℕ → ℕ
rank_in class [] k = 0
rank_in class (m ∷ ms) k = cond (eqb (class m) k) (length ms) (rank_in class ms k)

pub set_at : {A : Type 0} (old : ℕ → A) (k : ℕ) (v : A) → SetAt old (λ x. cond (eqb k x) v (old x)) k v
set_at old k v =
    record { here = cond-true _ _ _ (eq-eqb k k refl); other = λ x n. cond-false _ _ _ (ne_eqb k x (λ e. n (sym e))) }

-- ---- how many are false

pub falses_same : (f g : ℕ → Bool) (n : ℕ) → ((x : ℕ) → x < n → g x ≡ f x) → falses g n ≡ falses f n
falses_same f g zero h = refl
falses_same f g (suc n) h =
    let e = h n (omega arith) in
    let i = falses_same f g n (λ x l. h x (omega arith)) in
    ap (λ b. cond b (falses g n) (suc (falses g n))) e ∙ ap (λ m. cond (f n) m (suc m)) i

-- one less when one that was false is set
pub falses_set : (f g : ℕ → Bool) (k n : ℕ) → SetAt f g k true → f k ≡ false → k < n → suc (falses g n) ≡ falses f n
falses_set f g k zero s e l = absurd (not-suc-le-zero l)
falses_set f g k (suc n) s e l = go (ℕ_discrete k n) (λ m. falses_set f g k n s e m)
  where
    up : (v : Bool) (a b : ℕ) → suc a ≡ b → suc (cond v a (suc a)) ≡ cond v b (suc b)
    up true a b p = p
    up false a b p = ap suc p

    go : Dec (k ≡ n) → (k < n → suc (falses g n) ≡ falses f n)
        → suc (cond (g n) (falses g n) (suc (falses g n))) ≡ cond (f n) (falses f n) (suc (falses f n))
    go (yes q) ih =
        ap suc (cond-true (g n) _ _ (ap g (sym q) ∙ s.here))
        ∙ ap suc (falses_same f g n (λ x m. s.other x (omega arith)))
        ∙ sym (cond-false (f n) _ _ (ap f (sym q) ∙ e))
    go (no q) ih =
        ap (λ b. suc (cond b (falses g n) (suc (falses g n)))) (s.other n (λ r. q (sym r)))
        ∙ up (f n) (falses g n) (falses f n) (ih (omega arith))

pub falses_all : (n : ℕ) → falses (λ k. false) n ≡ n
falses_all zero = refl
falses_all (suc n) = ap suc (falses_all n)

pub falses_few : (f : ℕ → Bool) (n : ℕ) → falses f n ≤ n
falses_few f zero = omega arith
falses_few f (suc n) = go (f n) (falses_few f n)
  where
    go : (v : Bool) → falses f n ≤ n → cond v (falses f n) (suc (falses f n)) ≤ suc n
    go true h = omega arith
    go false h = omega arith

pub falses_some : (f : ℕ → Bool) (k n : ℕ) → k < n → f k ≡ false → 0 < falses f n
falses_some f k n l e =
    let s : SetAt f (λ x. cond (eqb k x) true (f x)) k true = set_at f k true in
    omega (arith, falses_set f (λ x. cond (eqb k x) true (f x)) k n s e l)

-- ---- when one more node settles its class

pub done_set : (class : ℕ → ℕ) (ms : List ℕ) (m : ℕ) → SetAt (done_in class ms) (done_in class (m ∷ ms)) (class m) true
done_set class ms m = set_at (done_in class ms) (class m) true

pub choice_set : (class : ℕ → ℕ) (ms : List ℕ) (m : ℕ) → SetAt (choice_in class ms) (choice_in class (m ∷ ms)) (class m) m
choice_set class ms m = set_at (choice_in class ms) (class m) m

-- a class that is done stays done
pub done_still : (class : ℕ → ℕ) (ms : List ℕ) (m k : ℕ) → done_in class ms k ≡ true → done_in class (m ∷ ms) k ≡ true
done_still class ms m k e = go (eqb (class m) k)
  where
    go : (v : Bool) → cond v true (done_in class ms k) ≡ true
    go true = refl
    go false = e

-- the node's own class is done
pub done_own : (class : ℕ → ℕ) (ms : List ℕ) (m : ℕ) → done_in class (m ∷ ms) (class m) ≡ true
done_own class ms m = (done_set class ms m).here

-- nothing else is
pub done_other : (class : ℕ → ℕ) (ms : List ℕ) (m k : ℕ) → done_in class ms k ≡ false → done_in class (m ∷ ms) k ≡ true → class m ≡ k
done_other class ms m k o e = go (eqb (class m) k) refl
  where
    go : (v : Bool) → eqb (class m) k ≡ v → class m ≡ k
    go true f = eqb-true (class m) k f
    go false f = absurd (both_ways (done_in class ms k) o (sym (cond-false (eqb (class m) k) true (done_in class ms k) f) ∙ e))

-- while a class is not done some node is ready
pub some_ready : (t : Table) (class : ℕ → ℕ) (ms : List ℕ) → PartsFirst t → (i : ℕ) → i < length t → done_in class ms (class i) ≡ false
    → (m : ℕ) × Ready t class ms m
some_ready t class ms lower i h e =
    let f = (settling Build).goes_on t class (done_in class ms) lower i h e in
    (f.0, record { here = f.1; open_yet = f.2; parts = f.3 })

-- when none is, every class is done
pub all_done : (t : Table) (class : ℕ → ℕ) (ms : List ℕ) → PartsFirst t → ((m : ℕ) → ¬ Ready t class ms m)
    → (i : ℕ) → i < length t → done_in class ms (class i) ≡ true
all_done t class ms lower none i h = go (done_in class ms (class i)) refl
  where
    go : (v : Bool) → done_in class ms (class i) ≡ v → done_in class ms (class i) ≡ true
    go true e = e
    go false e = let f = some_ready t class ms lower i h e in absurd (none f.0 f.1)

module _ {C : Type 0} (rule : Rule C) (t : Table) (class : ℕ → ℕ) where
  pub cost_set : (ms : List ℕ) (m : ℕ)
      → SetAt (cost_in rule t class ms) (cost_in rule t class (m ∷ ms)) (class m) (cost_at rule t class ms m)
  cost_set ms m = set_at (cost_in rule t class ms) (class m) (cost_at rule t class ms m)

  -- a done class costs what it did
  pub cost_still : (ms : List ℕ) (m k : ℕ) → done_in class ms (class m) ≡ false → done_in class ms k ≡ true
      → cost_in rule t class (m ∷ ms) k ≡ cost_in rule t class ms k
  cost_still ms m k o e =
      (cost_set ms m).other k (λ q. both_ways (done_in class ms k) (ap (done_in class ms) q ∙ o) e)

  -- a node over done parts costs what it did
  pub cost_at_still : (ms : List ℕ) (m j : ℕ) → done_in class ms (class m) ≡ false
      → EachPart (λ p. done_in class ms (class p) ≡ true) (shape_at t j) → cost_at rule t class (m ∷ ms) j ≡ cost_at rule t class ms j
  cost_at_still ms m j o = go (shape_at t j)
    where
      go : (x : Shape) → EachPart (λ p. done_in class ms (class p) ≡ true) x
          → cost_over rule (λ p. cost_in rule t class (m ∷ ms) (class p)) x ≡ cost_over rule (λ p. cost_in rule t class ms (class p)) x
      go (atom x) e = refl
      go (unary x p) e = ap (rule.cost_one x) (cost_still ms m (class p) o e)
      go (binary x p q) e = ap₂ (rule.cost_two x) (cost_still ms m (class p) o e.0) (cost_still ms m (class q) o e.1)

  -- ---- stages settle the choices

  next_of : (ms : List ℕ) (m : ℕ) → Foremost rule t class ms m → Next rule t class (done_in class ms) (cost_in rule t class ms) m
  next_of ms m f =
      record {
        here = f.ready.here;
        open_yet = f.ready.open_yet;
        ready = f.ready.parts;
        best = λ j h o r. f.cheapest j (record { here = h; open_yet = o; parts = r });
      }

  pub underway : RuleLaws rule → PartsFirst t → {ms : List ℕ} → Staged rule t class ms
      → Underway rule t class (done_in class ms) (choice_in class ms) (rank_in class ms) (cost_in rule t class ms) (length ms)
  underway laws lower begin = (settling C).start rule t class (λ k. 0) (λ k. 0) (λ k. rule.cost_alone [])
  underway laws lower (stage {ms} {m} s f) =
      (settling C).step rule laws t class (done_in class ms) (choice_in class ms) (rank_in class ms) (cost_in rule t class ms) (length ms)
      lower (underway laws lower s) m (next_of ms m f)
      (done_in class (m ∷ ms)) (choice_in class (m ∷ ms)) (rank_in class (m ∷ ms)) (cost_in rule t class (m ∷ ms))
      (done_set class ms m) (choice_set class ms m) (set_at (rank_in class ms) (class m) (length ms)) (cost_set ms m)

  pub settled_by : RuleLaws rule → PartsFirst t → {ms : List ℕ} → Stages rule t class ms
      → Settled rule t class (choice_in class ms) (rank_in class ms) (cost_in rule t class ms)
  settled_by laws lower {ms} s =
      (settling C).finish rule t class (done_in class ms) (choice_in class ms) (rank_in class ms) (cost_in rule t class ms) (length ms)
      lower (underway laws lower s.staged) s.all

  -- as many stages as classes are done
  pub count_done : ((i : ℕ) → i < length t → class i < length t) → {ms : List ℕ} → Staged rule t class ms
      → length ms + falses (done_in class ms) (length t) ≡ length t
  count_done low begin = omega (arith, falses_all (length t))
  count_done low (stage {ms} {m} s f) =
      let h = count_done low s in
      let k = falses_set (done_in class ms) (done_in class (m ∷ ms)) (class m) (length t) (done_set class ms m)
      f.ready.open_yet (low m f.ready.here) in
      omega arith

  -- so no more stages than nodes
  pub stages_few : ((i : ℕ) → i < length t → class i < length t) → {ms : List ℕ} → Staged rule t class ms → length ms ≤ length t
  stages_few low s = omega (arith, count_done low s)

  rank_early : {ms : List ℕ} → Staged rule t class ms → (k : ℕ) → done_in class ms k ≡ true → rank_in class ms k < length ms
  rank_early begin k e = absurd (both_ways false refl e)
  rank_early (stage {ms} {m} s f) k e = go (eqb (class m) k) e (rank_early s k)
    where
      go : (v : Bool) → cond v true (done_in class ms k) ≡ true → (done_in class ms k ≡ true → rank_in class ms k < length ms)
          → cond v (length ms) (rank_in class ms k) < suc (length ms)
      go true d ih = omega arith
      go false d ih = omega (arith, ih d)

  pub rank_short : ((i : ℕ) → i < length t → class i < length t) → {ms : List ℕ} → Staged rule t class ms
      → (k : ℕ) → done_in class ms k ≡ true → rank_in class ms k < length t
  rank_short low s k e = omega (arith, rank_early s k e, stages_few low s)

  -- a choice is a node
  pub choice_node : 0 < length t → {ms : List ℕ} → Staged rule t class ms → (k : ℕ) → choice_in class ms k < length t
  choice_node some begin k = some
  choice_node some (stage {ms} {m} s f) k = go (eqb (class m) k) (choice_node some s k)
    where
      go : (v : Bool) → choice_in class ms k < length t → cond v m (choice_in class ms k) < length t
      go true h = f.ready.here
      go false h = h

  -- of the class that it settled
  pub choice_own : {ms : List ℕ} → Staged rule t class ms → (k : ℕ) → done_in class ms k ≡ true → class (choice_in class ms k) ≡ k
  choice_own begin k e = absurd (both_ways false refl e)
  choice_own (stage {ms} {m} s f) k e = go (eqb (class m) k) refl e (choice_own s k)
    where
      go : (v : Bool) → eqb (class m) k ≡ v → cond v true (done_in class ms k) ≡ true
          → (done_in class ms k ≡ true → class (choice_in class ms k) ≡ k) → class (cond v m (choice_in class ms k)) ≡ k
      go true q d ih = eqb-true (class m) k q
      go false q d ih = ih d

  -- ---- one way through the stages

  one_next : (ms : List ℕ) (m n : ℕ) → Foremost rule t class ms m → Foremost rule t class ms n → m ≡ n
  one_next ms m n f g =
      omega (arith, f.lowest n g.ready (g.cheapest m f.ready), g.lowest m f.ready (f.cheapest n g.ready))

  as_far : {ms ns : List ℕ} → Staged rule t class ms → Staged rule t class ns → length ms ≡ length ns → ms ≡ ns
  as_far begin begin e = refl
  as_far begin (stage s f) e = absurd (omega arith)
  as_far (stage s f) begin e = absurd (omega arith)
  as_far (stage {ms} {m} s f) (stage {ms = ns} {m = n} r g) e =
      let h : ms ≡ ns = as_far s r (omega arith) in
      let k = one_next ns m n (subst (λ (l : List ℕ). Foremost rule t class l m) h f) g in
      ap₂ (λ (a : ℕ) (l : List ℕ). a ∷ l) k h

  no_further : {ms ns : List ℕ} → Stages rule t class ms → Staged rule t class ns → length ns ≤ length ms
  no_further s begin = omega arith
  no_further {ms} s (stage {ms = ns} {m = n} r g) = go (dec_lt (length ns) (length ms)) (no_further s r)
    where
      go : Dec (length ns < length ms) → length ns ≤ length ms → suc (length ns) ≤ length ms
      go (yes l) ih = l
      go (no l) ih =
          let e = as_far r s.staged (omega arith) in
          absurd (both_ways (done_in class ms (class n))
          (ap (λ (l : List ℕ). done_in class l (class n)) (sym e) ∙ g.ready.open_yet) (s.all n g.ready.here))

  pub one_way : {ms ns : List ℕ} → Stages rule t class ms → Stages rule t class ns → ms ≡ ns
  one_way s r = as_far s.staged r.staged (omega (arith, no_further s r.staged, no_further r s.staged))

  -- ---- the same stages with builds for costs

  cost_of_over : (f : ℕ → Build) (g : ℕ → C) → ((p : ℕ) → cost_of rule (f p) ≡ g p) → (x : Shape)
      → cost_of rule (cost_over (by_builds (cheaper_by rule)) f x) ≡ cost_over rule g x
  cost_of_over f g e (atom x) = refl
  cost_of_over f g e (unary x p) = ap (rule.cost_one x) (e p)
  cost_of_over f g e (binary x p q) = ap₂ (rule.cost_two x) (e p) (e q)

  -- a class costs what the build costs that it settles at
  pub cost_of_in : (ms : List ℕ) (k : ℕ) → cost_of rule (cost_in (by_builds (cheaper_by rule)) t class ms k) ≡ cost_in rule t class ms k
  cost_of_in [] k = refl
  cost_of_in (m ∷ ms) k =
      go (cost_at (by_builds (cheaper_by rule)) t class ms m) (cost_in (by_builds (cheaper_by rule)) t class ms k) (eqb (class m) k)
      (cost_of_over (λ p. cost_in (by_builds (cheaper_by rule)) t class ms (class p)) (λ p. cost_in rule t class ms (class p))
      (λ p. cost_of_in ms (class p)) (shape_at t m))
      (cost_of_in ms k)
    where
      go : (u v : Build) {a b : C} (w : Bool) → cost_of rule u ≡ a → cost_of rule v ≡ b → cost_of rule (cond w u v) ≡ cond w a b
      go u v true p q = p
      go u v false p q = q

  pub cost_of_at : (ms : List ℕ) (j : ℕ) → cost_of rule (cost_at (by_builds (cheaper_by rule)) t class ms j) ≡ cost_at rule t class ms j
  cost_of_at ms j =
      cost_of_over (λ p. cost_in (by_builds (cheaper_by rule)) t class ms (class p)) (λ p. cost_in rule t class ms (class p))
      (λ p. cost_of_in ms (class p)) (shape_at t j)

  foremost_by_order : (ms : List ℕ) (m : ℕ) → Foremost rule t class ms m → Foremost (by_builds (cheaper_by rule)) t class ms m
  foremost_by_order ms m f =
      record {
        ready = f.ready;
        cheapest = λ j r. ap₂ rule.below (cost_of_at ms j) (cost_of_at ms m) ∙ f.cheapest j r;
        lowest = λ j r e. f.lowest j r (ap₂ rule.below (sym (cost_of_at ms m)) (sym (cost_of_at ms j)) ∙ e);
      }

  pub staged_by_order : {ms : List ℕ} → Staged rule t class ms → Staged (by_builds (cheaper_by rule)) t class ms
  staged_by_order begin = begin
  staged_by_order (stage {ms} {m} s f) = stage (staged_by_order s) (foremost_by_order ms m f)

  pub by_order : {ms : List ℕ} → Stages rule t class ms → Stages (by_builds (cheaper_by rule)) t class ms
  by_order s = record { staged = staged_by_order s.staged; all = s.all }
