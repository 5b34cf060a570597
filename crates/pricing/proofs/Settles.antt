-- The loop that settles classes, over a book's nodes: what holds between two stages, and what each turn of the loop makes of it.
use Rattle.std.proofs.Common.{◌≡◌, ℕ, ◌<◌, ◌≤◌, Bool, true, false, List, [], ◌∷◌, length, get_or, take, Option, Some, None, MatchOption, sym, refl, ap, ◌∙◌, subst, subst₂, arith}
use Rattle.std.proofs.lemmas.List.{length-map, length-take-le, get_or-set_other}
use Rattle.std.proofs.lemmas.Bool.{cond-true}
use Rattle.queue.specs.declared.Entry.{Entry}
use Rattle.queue.specs.declared.Queue.{Queue}
use Rattle.queue.specs.Queues.{slice, held, Ordered, First, Same, Popped}
use Rattle.theory.specs.Tables.{EachPart, PartsFirst}
use Rattle.theory.specs.Costs.{Rule}
use Rattle.theory.proofs.Stages.{falses_all, falses_same}
use Rattle.book.specs.declared.row.Row.{Row}
use Rattle.book.specs.declared.nodes.Nodes.{Nodes}
use Rattle.book.specs.Rows.{row, class, shape_of, bare}
use Rattle.book.proofs.Tables.{node_lower}
use Rattle.pricing.specs.declared.chain.Side.TheVariants.{Left, Right}
use Rattle.pricing.specs.declared.settled.Settled.{Settled}
use Rattle.pricing.specs.Nodes.{table, links, chosen_at, settled, ready_at, cost_from}
use Rattle.pricing.specs.Chains.{key}
use Rattle.pricing.specs.Offers.{Waits, Offered, Offers, flag}
use Rattle.pricing.specs.Settling.{Chose, Settles}
use Rattle.pricing.proofs.Nodes.{shape_here}
use Rattle.pricing.proofs.Turns.{Due, Full, start, offered, done_ready, finished, full_next}
use Rattle.pricing.proofs.Pops.{here, passed, settles}

-- of the nodes N, between two stages; the costs were bs at first, and are in the slice lent under the name `lent`
pub record Between {C : Type 0} (rule : Rule C) (N : Nodes) (bs : List C) (lent : ℕ) (s : Settled C) (F : List Bool) (q : Queue C) : Type 0 where
  pub nodes : s.nodes ≡ N
  pub settlers : List ℕ
  pub due : Due rule (table N.rows.now) (class N.rows.now) settlers (links s.chosen) s.costs.now F (held q)
  pub full : Full (table N.rows.now) (class N.rows.now) settlers F
  pub later : (k : ℕ) (d : C) → length N.rows.now ≤ k → get_or s.costs.now k d ≡ get_or bs k d
  pub over : s.costs.ghost_name ≡ lent

-- nothing is in the queue, so there is room for each node
pub empty_waits : {C : Type 0} (below : C → C → Bool) (n : ℕ) (F : List Bool) (q : Queue C) → Ordered below q → n ≤ length (slice q) → n ≤ length F
    → q.count ≡ 0 → ((i : ℕ) → i < n → flag F i ≡ false) → Waits below n F q
empty_waits below n F q order wide flags z low =
    record {
      order = order;
      wide = wide;
      flags = flags;
      space = omega (arith, falses_same (λ k. false) (flag F) n low, falses_all n);
    }

-- an entry fewer, or none
pub waits_still : {C : Type 0} (below : C → C → Bool) (n : ℕ) (F : List Bool) (q q' : Queue C) (r : Option (Entry C)) → Waits below n F q
    → MatchOption r ((q.count ≡ 0) × Same q q') (λ x. Popped x q q') → Ordered below q' → length (slice q') ≡ length (slice q) → Waits below n F q'
waits_still below n F q q' None W h order room =
    record { order = order; wide = omega (arith, W.wide); flags = W.flags; space = omega (arith, W.space, h.1.count) }
waits_still below n F q q' (Some x) W P order room =
    record { order = order; wide = omega (arith, W.wide); flags = W.flags; space = omega (arith, W.space, P.count) }

-- costs that are the same
pub settles_on : {C : Type 0} (rule : Rule C) (xs : List Row) (ch : List (Option ℕ)) (bs bs' ds ds' : List C) → bs ≡ bs' → ds ≡ ds'
    → Settles rule xs ch bs ds → Settles rule xs ch bs' ds'
settles_on rule xs ch bs bs' ds ds' e f S = subst₂ (Settles rule xs ch) e f S

module _ (N : Nodes) where
  table_long : length (table N.rows.now) ≡ length N.rows.now
  table_long = length-map N.rows.now (λ (r : Row). shape_of bare r.node)

  parts_first : PartsFirst (table N.rows.now)
  parts_first i h =
      let l : i < length N.rows.now = omega (arith, table_long) in
      subst (EachPart (λ p. p < i)) (sym (shape_here N.rows.now i l))
      (node_lower bare i (row N.rows.now i).node (N.tidy i l))

  class_in : (i : ℕ) → i < length N.rows.now → class N.rows.now i < length N.rows.now
  class_in i h = omega (arith, (N.based i h).0)

  within : (i : ℕ) → i < length (table N.rows.now) → class N.rows.now i < length (table N.rows.now)
  within i h = omega (arith, table_long, class_in i (omega (arith, table_long)))

  -- each node with the key k that is ready has its flag
  abbrev pub Sees : Nodes → List (Option ℕ) → (ℕ → Type 0) → List Bool → Type 0
  Sees M ch P F = (i : ℕ) → i < length M.rows.now → P i → ready_at M.rows.now ch i ≡ true → flag F i ≡ true

  module _ {C : Type 0} (rule : Rule C) where
    -- what is said of the nodes of s is said of N
    pub offers_on : (s : Settled C) (F F' : List Bool) (q q' : Queue C) → s.nodes ≡ N → Offers rule s F F' q q'
        → Offered (length N.rows.now) (ready_at N.rows.now (links s.chosen)) (cost_from rule N.rows.now s.costs.now) F F' q.count q'.count (held q) (held q')
    offers_on s F F' q q' e O =
        subst (λ (M : Nodes). Offered (length M.rows.now) (ready_at M.rows.now (links s.chosen)) (cost_from rule M.rows.now s.costs.now)
        F F' q.count q'.count (held q) (held q')) e O

    -- the nodes without parts were offered, and no other one is ready
    pub begun : (s : Settled C) (F F' : List Bool) (q q' : Queue C) → s.nodes ≡ N → ((k : ℕ) → chosen_at (links s.chosen) k ≡ None)
        → ((i : ℕ) → flag F i ≡ false) → q.count ≡ 0 → Offers rule s F F' q q' → Sees s.nodes (links s.chosen) (λ i. Unit {0}) F'
        → Between rule N s.costs.now s.costs.ghost_name s F' q'
    begun s F F' q q' e clear low z O seen =
        let xs = N.rows.now in
        let S = start rule (table xs) (class xs) (links s.chosen) s.costs.now F (λ k h. clear k) (λ i h. low i) in
        let D : Due rule (table xs) (class xs) [] (links s.chosen) s.costs.now F (held q)
        = subst (λ (n : ℕ). Due rule (table xs) (class xs) [] (links s.chosen) s.costs.now F (take n (slice q))) (sym z) S in
        let sees : Sees N (links s.chosen) (λ i. Unit {0}) F' = subst (λ (M : Nodes). Sees M (links s.chosen) (λ i. Unit {0}) F') e seen in
        record {
          nodes = e;
          settlers = [];
          due = offered parts_first within D (omega (arith, table_long)) (offers_on s F F' q q' e O);
          full = λ j h r. sees j (omega (arith, table_long)) tt (done_ready parts_first within D j h r);
          later = λ k d h. refl;
          over = refl;
        }

    module _ (bs : List C) (lent : ℕ) (s : Settled C) (F : List Bool) (q : Queue C) (B : Between rule N bs lent s F q) where
      -- nothing is left in the queue
      pub ended : q.count ≤ length (slice q) → q.count ≡ 0 → Settles rule N.rows.now (links s.chosen) bs s.costs.now
      ended fits z =
          let D = B.due in
          record {
            settlers = B.settlers;
            stages = finished parts_first within D B.full (length-take-le q.count (slice q) fits ∙ z);
            chosen = λ k h e. D.chosen k (omega (arith, table_long)) ∙ cond-true _ _ None e;
            costs = λ k d h e. D.priced k d (omega (arith, table_long)) e;
            later = B.later;
          }

      module _ (x : Entry C) (q' : Queue C) (P : Popped x q q') where
        pub node_in : x.node < length N.rows.now
        node_in = omega (arith, (here parts_first within B.due x (held q') P.takes).0, table_long)

        pub node_in_settled : x.node < length s.nodes.rows.now
        node_in_settled = omega (arith, node_in, ap (λ (M : Nodes). length M.rows.now) B.nodes)

        -- the class of its node was settled before
        pub passed_over : true ≡ settled (links s.chosen) (class s.nodes.rows.now x.node) → Between rule N bs lent s F q'
        passed_over e =
            record {
              nodes = B.nodes;
              settlers = B.settlers;
              due = passed parts_first within B.due x (held q') P.takes
                  (ap (λ (M : Nodes). settled (links s.chosen) (class M.rows.now x.node)) (sym B.nodes) ∙ sym e);
              full = B.full;
              later = B.later;
              over = B.over;
            }

        -- its node settles its class, and the nodes over that class are offered
        pub taken_up : First rule.below x (held q) → false ≡ settled (links s.chosen) (class s.nodes.rows.now x.node) → length N.rows.now ≤ length (links s.chosen)
            → (s' : Settled C) → Chose s.nodes.rows.now x (links s.chosen) (links s'.chosen) s.costs.now s'.costs.now → s'.nodes ≡ s.nodes
            → s'.costs.ghost_name ≡ s.costs.ghost_name → (k : ℕ) → k ≡ class s.nodes.rows.now x.node
            → (F₁ F₂ : List Bool) (q₁ q₂ : Queue C) → Offers rule s' F F₁ q' q₁ → Offers rule s' F₁ F₂ q₁ q₂
            → Sees s'.nodes (links s'.chosen) (λ i. key Left N.rows.now i ≡ Some k) F₁ → Sees s'.nodes (links s'.chosen) (λ i. key Right N.rows.now i ≡ Some k) F₂
            → Between rule N bs lent s' F₂ q₂
        taken_up first z long s' H n' l' k v F₁ F₂ q₁ q₂ O₁ O₂ left right =
            let xs = N.rows.now in
            let ms = B.settlers in
            let m = class xs x.node in
            let e : s'.nodes ≡ N = n' ∙ B.nodes in
            let H' : Chose xs x (links s.chosen) (links s'.chosen) s.costs.now s'.costs.now
            = subst (λ (M : Nodes). Chose M.rows.now x (links s.chosen) (links s'.chosen) s.costs.now s'.costs.now) B.nodes H in
            let open_yet : settled (links s.chosen) m ≡ false = sym (z ∙ ap (λ (M : Nodes). settled (links s.chosen) (class M.rows.now x.node)) B.nodes) in
            let is : Some m ≡ Some k = ap Some (sym (v ∙ ap (λ (M : Nodes). class M.rows.now x.node) B.nodes)) in
            let S = settles parts_first within B.due x (held q') P.takes B.full first open_yet (omega (arith, table_long))
            (omega (arith, table_long, s.room, ap (λ (M : Nodes). length M.rows.now) B.nodes)) in
            let D : Due rule (table xs) (class xs) (x.node ∷ ms) (links s'.chosen) s'.costs.now F (held q')
            = subst₂ (λ (l : List (Option ℕ)) (cs : List C). Due rule (table xs) (class xs) (x.node ∷ ms) l cs F (held q')) (sym H'.chosen) (sym H'.costs) S in
            let D' = offered parts_first within D (omega (arith, table_long)) (offers_on s' F F₁ q' q₁ e O₁) in
            let on_left = subst (λ (M : Nodes). Sees M (links s'.chosen) (λ i. key Left xs i ≡ Some k) F₁) e left in
            let on_right = subst (λ (M : Nodes). Sees M (links s'.chosen) (λ i. key Right xs i ≡ Some k) F₂) e right in
            record {
              nodes = e;
              settlers = x.node ∷ ms;
              due = offered parts_first within D' (omega (arith, table_long)) (offers_on s' F₁ F₂ q₁ q₂ e O₂);
              full = full_next (table xs) (class xs) ms x.node F F₂ B.full (λ j f. O₂.up j (O₁.up j f))
                  (λ j h f r. O₂.up j (on_left j (omega (arith, table_long)) (f ∙ is) (done_ready parts_first within D j h r)))
                  (λ j h f r. on_right j (omega (arith, table_long)) (f ∙ is) (done_ready parts_first within D j h r));
              later = λ j d h.
                  ap (λ (l : List C). get_or l j d) H'.costs
                  ∙ get_or-set_other s.costs.now m j x.cost d (omega (arith, class_in x.node node_in))
                  ∙ B.later j d h;
              over = l' ∙ B.over;
            }
