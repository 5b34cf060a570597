-- What putting nodes into the queue does, and the room for them.
--
-- | word    | meaning                                                                                           |
-- |---------|---------------------------------------------------------------------------------------------------|
-- | flag    | whether a node was put into the queue                                                             |
-- | falses  | of how many of the first n a test does not hold                                                   |
-- | Waits   | the queue is in order, and has room for each node that was not put into it                        |
-- | Offered | some nodes that are ready and were not in the queue are in it now, each once and at its cost      |
-- | Offers  | the same, by what is settled so far                                                               |
use Rattle.std.specs.Prelude.{◌≡◌, ℕ, ◌+◌, ◌<◌, ◌≤◌, Bool, true, false, ◌⊎◌, List, length, slice_index_or}
use Rattle.std.specs.List.{ContainsAt as Has}
use Rattle.theory.specs.Costs.{Rule}
use Rattle.theory.specs.Steps.{falses}
use Rattle.queue.specs.declared.Entry.{Entry}
use Rattle.queue.specs.declared.Queue.{Queue}
use Rattle.queue.specs.Queues.{slice, held, Ordered}
use Rattle.pricing.specs.declared.settled.Settled.{Settled}
use Rattle.pricing.specs.Nodes.{links, ready_at, cost_from}

abbrev pub flag : List Bool → ℕ → Bool
flag F i = slice_index_or F i false

abbrev pub entry : {C : Type 0} → C → ℕ → Entry C
entry c i = record { cost = c; node = i }

pub record Waits {C : Type 0} (below : C → C → Bool) (n : ℕ) (F : List Bool) (q : Queue C) : Type 0 where
  pub order : Ordered below q
  pub wide : n ≤ length (slice q)
  pub flags : n ≤ length F
  pub space : q.count + falses (flag F) n ≤ n

-- of the first n nodes; F are the flags, c counts the entries, and q lists them
pub record Offered {C : Type 0} (n : ℕ) (ready : ℕ → Bool) (cost : ℕ → C) (F F' : List Bool) (c c' : ℕ) (q q' : List (Entry C)) : Type 0 where
  pub up : (i : ℕ) → flag F i ≡ true → flag F' i ≡ true
  pub new : (i : ℕ) → flag F i ≡ false → flag F' i ≡ true → (i < n) × (ready i ≡ true) × Has q' (entry (cost i) i)
  pub kept : (x : Entry C) → Has q x → Has q' x
  pub only : (x : Entry C) → Has q' x
      → Has q x ⊎ ((x.node < n) × (flag F x.node ≡ false) × (flag F' x.node ≡ true) × (ready x.node ≡ true) × (x.cost ≡ cost x.node))
  pub count : c' + falses (flag F') n ≡ c + falses (flag F) n

abbrev pub Offers : {C : Type 0} → Rule C → Settled C → List Bool → List Bool → Queue C → Queue C → Type 0
Offers rule s F F' q q' =
    Offered (length s.nodes.rows.now) (ready_at s.nodes.rows.now (links s.chosen)) (cost_from rule s.nodes.rows.now s.costs.now) F F' q.count q'.count (held q)
    (held q')
