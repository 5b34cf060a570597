-- A listing is a matter of nodes and classes alone: what it is in one state it is in any other with the same.
use Rattle.std.proofs.Common.{◌≡◌, ℕ, Bool, List, sym, refl, ◌∙◌, subst}
use mathlib.Core.List.{Memᴰ}
use Rattle.theory.specs.Names.{Name}
use Rattle.theory.specs.Tables.{NodePairs}
use Rattle.theory.specs.Books.{Node, leaf, over, pair, State, node_at, class}
use Rattle.theory.specs.Productions.{Production, made_by, production, Reached, top, below, FirstWith, Before, by_class, by_node, Listed}
use Rattle.theory.specs.Calls.{Answer, Listing, Listing.no_node, Listing.short, Listing.too_long, Listing.written}

module _ (s : State) (names : List Name) (equated : NodePairs) (choices : List ℕ) (priced : Bool) (room : ℕ) where
  abbrev other : State
  other =
      record {
        names = names;
        nodes = s.nodes;
        equated = equated;
        classes = s.classes;
        choices = choices;
        priced = priced;
        room = room;
      }

  made_same : (k : ℕ) (x : Node) → made_by other k x ≡ made_by s k x
  made_same k (leaf a) = refl
  made_same k (over a p) = refl
  made_same k (pair a p q) = refl

  production_same : (j : ℕ) → production other j ≡ production s j
  production_same j = made_same (class s j) (node_at s j)

  reached_to : (n k : ℕ) → Reached s n k → Reached other n k
  reached_to n k top = top
  reached_to n k (below j p h r q) = below j p h (reached_to n (class s j) r) q

  reached_from : (n k : ℕ) → Reached other n k → Reached s n k
  reached_from n k top = top
  reached_from n k (below j p h r q) = below j p h (reached_from n (class s j) r) q

  first_to : (p : Production) (j : ℕ) → FirstWith s p j → FirstWith other p j
  first_to p j F =
      record { here = F.here; has = production_same j ∙ F.has; low = λ i h e. F.low i h (sym (production_same i) ∙ e) }

  before_to : (p q : Production) → Before s p q → Before other p q
  before_to p q (by_class h) = by_class h
  before_to p q (by_node e j k F G h) = by_node e j k (first_to p j F) (first_to q k G) h

  pub listed_to : (n : ℕ) (ps : List Production) → Listed s n ps → Listed other n ps
  listed_to n ps L =
      record {
        every = λ j h r. subst (λ (p : Production). Memᴰ p ps) (sym (production_same j)) (L.every j h (reached_from n (class s j) r));
        only = λ p m.
            let t = L.only p m in
            (t.0, t.1, reached_to n (class s t.0) t.2, production_same t.0 ∙ t.3);
        order = λ a b l h. before_to _ _ (L.order a b l h);
      }

  pub listing_to : (n marking : ℕ) (before : List Production) (answer : Answer ℕ) (after : List Production) (marks : List ℕ)
      → Listing s n marking before answer after marks s → Listing other n marking before answer after marks other
  listing_to n marking before answer after marks (no_node h a e m f) = no_node h a e m refl
  listing_to n marking before answer after marks (short h l a e m f) = short h l a e m refl
  listing_to n marking before answer after marks (too_long h l ps L z a e m f) = too_long h l ps (listed_to n ps L) z a e m refl
  listing_to n marking before answer after marks (written h l ps L z a e m f) = written h l ps (listed_to n ps L) z a e m refl
