-- Settling the classes of a book's nodes and spreading the choices is pricing the book.
use Rattle.std.proofs.Common.{◌≡◌, ℕ, ◌+◌, ◌<◌, ◌≤◌, Bool, true, ◌⊎◌, List, map, length, get_or, take, Option, sym, refl, ap, ◌∙◌, subst, inl, inr, arith}
use Rattle.theory.specs.Costs.{Rule, Cheaper, LawfulOrder, cheaper_by}
use Rattle.theory.specs.Stages.{done_in, choice_in, cost_in, Stages}
use Rattle.theory.specs.Books.{State, Chosen, IsNode, table as table_of, class as class_at, choice, with_choices, equations_in}
use Rattle.theory.specs.Spelling.{Spelled, CheapestBuilds}
use Rattle.theory.specs.Calls.{Pricing, short, settled, granted, refused}
use Rattle.theory.proofs.Stages.{by_order}
use Rattle.theory.proofs.Spelling.{priced_stands, spelled_cost}
use Rattle.theory.proofs.Priced.{with_pricing, priced_book}
use Rattle.book.specs.declared.row.Row.{Row}
use Rattle.book.specs.Rows.{row, class, with_choice}
use Rattle.book.specs.Layout.{Contents, state_of, Relaid}
use Rattle.book.specs.Invariant.{Sound}
use Rattle.book.specs.Changes.{Repriced}
use Rattle.book.specs.Held.{Kept}
use Rattle.book.proofs.Columns.{column_long, column_at}
use Rattle.book.proofs.States.{nodes_long, shapes_long, class_is}
use Rattle.book.proofs.Booked.{book_of}
use Rattle.book.proofs.Front.{front_length}
use Rattle.book.proofs.Repricing.{state_repriced, laid_repriced, kept_repriced}
use Rattle.pricing.specs.Nodes.{bare_rule, one_more}
use Rattle.pricing.specs.Settling.{Settles, Spread, priced_with}
use Rattle.pricing.specs.Told.{book_rule, CostsTold}
use Rattle.pricing.proofs.Renamed.{same_class, stages_named, cost_named_in}

-- the cost table or the waiting table is too short
pub too_short : (s : Contents) → Sound s → (cheaper : Cheaper) (c w : ℕ) → (c < s.nodes) ⊎ (w < s.nodes)
    → Pricing (state_of s) cheaper c w (refused 17) (state_of s)
too_short s K cheaper c w (inl h) = short (inl (omega (arith, nodes_long s K))) refl refl
too_short s K cheaper c w (inr h) = short (inr (omega (arith, nodes_long s K))) refl refl

-- the costs were bs, are cs when the classes are settled, and ds at the end
module _ {R C : Type 0} (below : C → C → Bool) (alone : R → ℕ → C) (one : R → ℕ → C → C) (two : R → ℕ → C → C → C) (r : R)
    (s : Contents) (K : Sound s) (ys : List Row) (ch : List (Option ℕ)) (bs cs ds : List C)
    (S : Settles (bare_rule below alone one two r) (take s.nodes s.rows) ch bs cs)
    (P : Spread s.rows ys s.nodes ch cs ds) where
  abbrev rule : Rule C
  rule = book_rule below alone one two r (state_of s)

  -- the choice of each node's class
  abbrev picks : List ℕ
  picks = map (λ (x : Row). choice_in (class_at (state_of s)) S.settlers x.node.class) (take s.nodes s.rows)

  is_node : (i : ℕ) → IsNode (state_of s) i → i < s.nodes
  is_node i h = omega (arith, nodes_long s K)

  named : Stages (book_rule below alone one two r (state_of s)) (table_of (state_of s)) (class_at (state_of s)) S.settlers
  named = stages_named s K below alone one two r S.stages

  class_same : (i : ℕ) → i < s.nodes → class s.rows i ≡ class_at (state_of s) i
  class_same i h = sym (class_is s K i h)

  class_in : (i : ℕ) → i < s.nodes → class s.rows i < s.nodes
  class_in i h = omega (arith, (K.based i h).0)

  done : (i : ℕ) → i < s.nodes → done_in (class (take s.nodes s.rows)) S.settlers (class s.rows i) ≡ true
  done i h =
      ap (λ (f : ℕ → ℕ). done_in f S.settlers (class s.rows i)) (same_class s K)
      ∙ ap (done_in (class_at (state_of s)) S.settlers) (class_same i h)
      ∙ named.all i (omega (arith, shapes_long s K))

  pick_is : (i : ℕ) → i < s.nodes → get_or picks i 0 ≡ choice_in (class_at (state_of s)) S.settlers (class s.rows i)
  pick_is i h = column_at (λ (x : Row). choice_in (class_at (state_of s)) S.settlers x.node.class) s.rows s.nodes i 0 K.nodes_fit.0 h

  choices : (i : ℕ) → IsNode (state_of s) i → get_or picks i 0 ≡ choice_in (class_at (state_of s)) S.settlers (class_at (state_of s) i)
  choices i h =
      let l = is_node i h in
      pick_is i l ∙ ap (choice_in (class_at (state_of s)) S.settlers) (class_same i l)

  long_picks : length picks ≡ s.nodes
  long_picks = column_long (λ (x : Row). choice_in (class_at (state_of s)) S.settlers x.node.class) s.rows s.nodes K.nodes_fit.0

  -- whatever pricing is in force
  chosen : (cs : List ℕ) (v : Bool) → Chosen (with_pricing (state_of s) cs v) (cheaper_by rule) picks
  chosen cs v =
      record {
        settlers = S.settlers;
        stages = by_order rule (table_of (state_of s)) (class_at (state_of s)) named;
        long = long_picks ∙ sym (nodes_long s K);
        choices = choices;
      }

  abbrev chosen_before : Chosen (state_of s) (cheaper_by rule) picks
  chosen_before = chosen (state_of s).choices s.priced

  repriced : Repriced s (priced_with s ys) picks
  repriced =
      record {
        long = P.long;
        within = λ i h.
            P.within i h
            ∙ ap (with_choice (row s.rows i))
            (ap one_more (S.chosen (class s.rows i) (omega (arith, front_length s K, class_in i h)) (done i h))
            ∙ ap (λ (f : ℕ → ℕ). choice_in f S.settlers (class s.rows i) + 1) (same_class s K)
            ∙ ap (λ (k : ℕ). k + 1) (sym (pick_is i h)));
        past = P.past;
        names = refl;
        nodes = refl;
        equations = refl;
        priced = refl;
      }

  state_after : state_of (priced_with s ys) ≡ with_choices (state_of s) picks
  state_after = state_repriced s (priced_with s ys) K picks long_picks repriced

  pub relaid : Relaid s (priced_with s ys)
  relaid = laid_repriced s (priced_with s ys) K picks long_picks repriced

  pub pricing : (c w : ℕ) → s.nodes ≤ c → s.nodes ≤ w
      → Pricing (state_of s) (cheaper_by rule) c w (granted tt) (state_of (priced_with s ys))
  pricing c w h l = settled (omega (arith, nodes_long s K)) (omega (arith, nodes_long s K)) refl picks chosen_before state_after

  cost_here : (i : ℕ) (d : C) → IsNode (state_of s) i
      → get_or ds i d ≡ cost_in rule (table_of (state_of s)) (class_at (state_of s)) S.settlers (class_at (state_of s) i)
  cost_here i d h =
      let l = is_node i h in
      let k = class s.rows i in
      P.costs i d l
      ∙ S.costs k d (omega (arith, front_length s K, class_in i l)) (done i l)
      ∙ cost_named_in s K below alone one two r S.stages k (done i l)
      ∙ ap (cost_in rule (table_of (state_of s)) (class_at (state_of s)) S.settlers) (class_same i l)

  module _ (lawful : LawfulOrder (cheaper_by rule)) where
    pub kept : Kept (priced_with s ys)
    kept = kept_repriced s (priced_with s ys) K picks (cheaper_by rule) lawful chosen_before repriced

    pub cheapest : CheapestBuilds (equations_in (state_of (priced_with s ys))) (cheaper_by rule) (state_of (priced_with s ys))
    cheapest =
        subst (λ (t : State). CheapestBuilds (equations_in t) (cheaper_by rule) t) (sym state_after)
        (priced_stands (with_choices (state_of s) picks) (priced_book (state_of s) (book_of s K) (cheaper_by rule) lawful picks chosen_before)
        (cheaper_by rule) lawful (chosen picks true))

    pub told : length ds ≡ length bs → CostsTold rule (state_of s) (state_of (priced_with s ys)) bs ds
    told long =
        record {
          settlers = S.settlers;
          stages = named;
          choices = λ i h. ap (λ (t : State). choice t i) state_after ∙ choices i h;
          costs = cost_here;
          spelled = λ i d h u a.
              cost_here i d h
              ∙ sym (spelled_cost rule lawful (state_of s) (book_of s K) named picks choices i h u
              (subst (λ (t : State). Spelled t i u) state_after a));
          later = λ i d h.
              let l : s.nodes ≤ i = omega (arith, nodes_long s K) in
              P.later i d l ∙ S.later i d (omega (arith, front_length s K));
          long = long;
        }
