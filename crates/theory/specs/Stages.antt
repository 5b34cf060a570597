-- Settling classes in stages. Cited by the relation of pricing.
-- At each stage one node settles its class and is that class's choice. The stages so far are the list of these nodes, the last first.
--
-- | word      | meaning                                                                                          |
-- |-----------|--------------------------------------------------------------------------------------------------|
-- | done_in   | whether a class is settled                                                                       |
-- | choice_in | the node that settled a class                                                                    |
-- | cost_in   | what a settled class costs: what its node cost over the costs of its parts' classes              |
-- | cost_at   | what a node costs over the settled costs of its parts' classes                                   |
-- | Ready     | a stage looks at the node: its class is not settled, and its parts' classes are                  |
-- | Foremost  | of the nodes that the stage looks at, the one of lowest cost, and among equals of lowest number  |
-- | Staged    | at each stage so far the foremost node settled its class                                         |
-- | Stages    | the same, and every class is settled                                                             |
use Rattle.std.specs.Prelude.{◌≡◌, ℕ, ◌<◌, ◌≤◌, Bool, true, false, cond, List, [], ◌∷◌, length, ◌==◌}
use Rattle.theory.specs.Tables.{Table, shape_at, EachPart}
use Rattle.theory.specs.Costs.{Rule, AtMost, cost_over}

abbrev pub done_in : (ℕ → ℕ) → List ℕ → ℕ → Bool
done_in class [] k = false
done_in class (m ∷ ms) k = cond (class m == k) true (done_in class ms k)

-- 0 for a class that is not settled
abbrev pub choice_in : (ℕ → ℕ) → List ℕ → ℕ → ℕ
choice_in class [] k = 0
choice_in class (m ∷ ms) k = cond (class m == k) m (choice_in class ms k)

-- of a class that is not settled it says nothing of use
abbrev pub cost_in : {C : Type 0} → Rule C → Table → (ℕ → ℕ) → List ℕ → ℕ → C
cost_in rule t class [] k = rule.cost_alone []
cost_in rule t class (m ∷ ms) k =
    cond (class m == k) (cost_over rule (λ p. cost_in rule t class ms (class p)) (shape_at t m)) (cost_in rule t class ms k)

abbrev pub cost_at : {C : Type 0} → Rule C → Table → (ℕ → ℕ) → List ℕ → ℕ → C
cost_at rule t class ms j = cost_over rule (λ p. cost_in rule t class ms (class p)) (shape_at t j)

pub record Ready (t : Table) (class : ℕ → ℕ) (ms : List ℕ) (j : ℕ) : Type 0 where
  pub here : j < length t
  pub open_yet : done_in class ms (class j) ≡ false
  pub parts : EachPart (λ p. done_in class ms (class p) ≡ true) (shape_at t j)

pub record Foremost {C : Type 0} (rule : Rule C) (t : Table) (class : ℕ → ℕ) (ms : List ℕ) (m : ℕ) : Type 0 where
  pub ready : Ready t class ms m
  pub cheapest : (j : ℕ) → Ready t class ms j → AtMost rule (cost_at rule t class ms m) (cost_at rule t class ms j)
  pub lowest : (j : ℕ) → Ready t class ms j → AtMost rule (cost_at rule t class ms j) (cost_at rule t class ms m) → m ≤ j

pub data Staged {C : Type 0} (rule : Rule C) (t : Table) (class : ℕ → ℕ) : List ℕ → Type 0 where
  begin : Staged rule t class []
  stage : {ms : List ℕ} {m : ℕ} → Staged rule t class ms → Foremost rule t class ms m → Staged rule t class (m ∷ ms)

pub record Stages {C : Type 0} (rule : Rule C) (t : Table) (class : ℕ → ℕ) (ms : List ℕ) : Type 0 where
  pub staged : Staged rule t class ms
  pub all : (i : ℕ) → i < length t → done_in class ms (class i) ≡ true
