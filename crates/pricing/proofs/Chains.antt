-- Chains of nodes with one key: made node by node, and walked from the last node down.
use Rattle.std.proofs.Common.{◌≡◌, ℕ, ◌+◌, ◌<◌, ◌≤◌, Bool, true, List, length, set, get_or, replicate, Option, Some, None, sym, ap, ◌∙◌, subst, subst₂, arith, length-set}
use native.Mathlib.Decide.{ℕ_discrete, dec_lt}
use Rattle.std.proofs.Math.ListN.{get_or-map}
use Rattle.std.proofs.lemmas.Grind.{get_or-set_at}
use Rattle.std.proofs.lemmas.List.{get_or-set_same, get_or-set_other, get_or_past, length-map, map-set}
use Rattle.pricing.specs.declared.link.Link.{Link}
use Rattle.pricing.specs.Nodes.{one_more, node_of, links, chosen_at, ChoicesIn}
use Rattle.pricing.specs.Chains.{link_at, Chained, Linked}
use Rattle.pricing.specs.Offers.{flag}
use Rattle.pricing.proofs.Nodes.{same_all}

-- ---- making the chains

-- no link yet
pub linked_none : (key : ℕ → Option ℕ) (first next : List (Option ℕ)) → ((k : ℕ) → link_at first k ≡ None) → Linked 0 key first next
linked_none key first next clear =
    record {
      chained = record { first_in = λ k. omega (arith, ap one_more (clear k)); next_in = λ i h. absurd (omega arith) };
      own = λ k j e. let c = clear k in cc;
      last = λ k i h. absurd (omega arith);
      same = λ i j k h. absurd (omega arith);
      between = λ i j k h. absurd (omega arith);
    }

-- the node i, where no link is set yet, without a key
pub linked_past : (i : ℕ) (key : ℕ → Option ℕ) (first next : List (Option ℕ)) → Linked i key first next → key i ≡ None → link_at next i ≡ None
    → Linked (i + 1) key first next
linked_past i key first next L none clear =
    record {
      chained = record { first_in = grind arith; next_in = grind arith };
      own = L.own;
      last = grind arith;
      same = grind arith;
      between = grind arith;
    }

-- the node i with its key k
pub linked_more : (i k : ℕ) (key : ℕ → Option ℕ) (first next : List (Option ℕ)) → Linked i key first next → key i ≡ Some k → k < length first
    → i < length next → Linked (i + 1) key (set first k (Some i)) (set next i (link_at first k))
linked_more i k key first next L is kin iin =
    record {
      chained = record { first_in = grind (arith, get_or-set_at, get_or-set_other); next_in = grind (arith, get_or-set_at, get_or-set_other) };
      own = grind (arith, get_or-set_at, get_or-set_other);
      last = grind (arith, get_or-set_at, get_or-set_other);
      same = grind (arith, get_or-set_at, get_or-set_other);
      between = grind (arith, get_or-set_at, get_or-set_other);
    }

-- ---- the same of links

abbrev pub unlinked : Link
unlinked = record { 0 = 0 }

pub link_is : (xs : List Link) (k : ℕ) → node_of (get_or xs k unlinked) ≡ link_at (links xs) k
link_is xs k = sym (get_or-map node_of xs k unlinked)

pub clear_all : (l : Link) (k : ℕ) → node_of l ≡ None → link_at (links (replicate 1024 l)) k ≡ None
clear_all l k e =
    subst (λ (a : Option ℕ). get_or (links (replicate 1024 l)) k a ≡ None) e
    (get_or-map node_of (replicate 1024 l) k l ∙ ap node_of (same_all 1024 k l) ∙ e)

pub set_link : (xs : List Link) (k i : ℕ) (l : Link) → node_of l ≡ Some i → links (set xs k l) ≡ set (links xs) k (Some i)
set_link xs k i l e = map-set node_of xs k l ∙ ap (set (links xs) k) e

choices_set : (n k i : ℕ) (ch : List (Option ℕ)) → ChoicesIn n ch → i < n → ChoicesIn n (set ch k (Some i))
choices_set n k i ch old h m j e = go (ℕ_discrete m k) (dec_lt k (length ch))
  where
    go : Dec (m ≡ k) → Dec (k < length ch) → j < n
    go (no q) b = old m j (sym (get_or-set_other ch k m (Some i) None q) ∙ e)
    go (yes q) (yes b) =
        let f : Some i ≡ Some j
        = sym (ap (λ (a : ℕ). chosen_at (set ch k (Some i)) a) q ∙ get_or-set_same ch k (Some i) None b) ∙ e in
        omega (arith, ap one_more f)
    go (yes q) (no b) =
        let f : None ≡ Some j = sym (get_or_past (set ch k (Some i)) m None (omega (arith, length-set ch k (Some i)))) ∙ e in
        absurd (cc)

-- one more choice, of the first n nodes
pub choices_link : (n k i : ℕ) (ch : List Link) (l : Link) → ChoicesIn n (links ch) → node_of l ≡ Some i → i < n → ChoicesIn n (links (set ch k l))
choices_link n k i ch l old e h = subst (ChoicesIn n) (sym (set_link ch k i l e)) (choices_set n k i (links ch) old h)

pub clear_past : (next : List Link) (i j : ℕ) (v : Link) → i < j → link_at (links next) j ≡ None → link_at (links (set next i v)) j ≡ None
clear_past next i j v h e =
    ap (λ (xs : List (Option ℕ)). link_at xs j) (map-set node_of next i v)
    ∙ get_or-set_other (links next) i j (node_of v) None (omega arith) ∙ e

pub linked_next : (i k : ℕ) (key : ℕ → Option ℕ) (first next : List Link) (l v : Link) → Linked i key (links first) (links next) → key i ≡ Some k
    → k < length first → i < length next → node_of l ≡ Some i → node_of v ≡ link_at (links first) k
    → Linked (i + 1) key (links (set first k l)) (links (set next i v))
linked_next i k key first next l v L is kin iin e f =
    subst₂ (Linked (i + 1) key)
    (sym (set_link first k i l e))
    (sym (map-set node_of next i v ∙ ap (set (links next) i) f))
    (linked_more i k key (links first) (links next) L is (omega (arith, length-map first node_of)) (omega (arith, length-map next node_of)))

-- ---- walking a chain

-- of the nodes with the key those from `at` on were seen: each that is ready has its flag; `at` is the next node, if any
pub record Walked (n k : ℕ) (first next : List (Option ℕ)) (ready : ℕ → Bool) (F : List Bool) (at : Option ℕ) : Type 0 where
  pub within : one_more at ≤ n
  pub own : (by : ℕ → Option ℕ) → Linked n by first next → (j : ℕ) → at ≡ Some j → by j ≡ Some k
  pub seen : (by : ℕ → Option ℕ) → Linked n by first next → (i : ℕ) → i < n → one_more at ≤ i → by i ≡ Some k → ready i ≡ true → flag F i ≡ true

module _ (n k : ℕ) (first next : List (Option ℕ)) (ready : ℕ → Bool) where
  pub walk_start : (F : List Bool) → Chained n first next → Walked n k first next ready F (link_at first k)
  walk_start F C =
      record {
        within = C.first_in k;
        own = λ by L j e. L.own k j e;
        seen = λ by L i h l e r. absurd (L.last k i h l e);
      }

  pub walk_on : (F F' : List Bool) (at : Option ℕ) (j : ℕ) → Chained n first next → Walked n k first next ready F at → at ≡ Some j
      → ((i : ℕ) → flag F i ≡ true → flag F' i ≡ true) → (ready j ≡ true → flag F' j ≡ true) → Walked n k first next ready F' (link_at next j)
  walk_on F F' at j C W e up here =
      record {
        within = omega (arith, in_nodes, C.next_in j in_nodes);
        own = λ by L i f. L.same j i k in_nodes (W.own by L j e) f;
        seen = λ by L i h l d r. seen by L i h l d r (dec_lt i j) (ℕ_discrete i j);
      }
    where
      in_nodes : j < n
      in_nodes = omega (arith, W.within, ap one_more e)

      seen : (by : ℕ → Option ℕ) → Linked n by first next → (i : ℕ) → i < n → one_more (link_at next j) ≤ i → by i ≡ Some k → ready i ≡ true
          → Dec (i < j) → Dec (i ≡ j) → flag F' i ≡ true
      seen by L i h l d r (yes b) s = absurd (L.between j i k in_nodes (W.own by L j e) l b d)
      seen by L i h l d r (no b) (yes s) = ap (flag F') s ∙ here (ap ready (sym s) ∙ r)
      seen by L i h l d r (no b) (no s) = up i (W.seen by L i h (omega (arith, ap one_more e)) d r)

  pub walk_end : (F : List Bool) → Walked n k first next ready F None → (by : ℕ → Option ℕ) → Linked n by first next
      → (i : ℕ) → i < n → by i ≡ Some k → ready i ≡ true → flag F i ≡ true
  walk_end F W by L i h d r = W.seen by L i h (omega arith) d r
