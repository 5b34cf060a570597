-- What the choices spell is equal to the node's build, and nothing equal is cheaper.
use Rattle.std.proofs.Common.{◌≡◌, ℕ, zero, suc, ◌<◌, ◌≤◌, Bool, true, false, length, sym, refl, ap, ◌∙◌, subst, ap₂, not-suc-le-zero, arith}
use native.Mathlib.Decide.{dec_lt}
use Rattle.theory.specs.Names.{Name}
use Rattle.theory.specs.Builds.{Build, alone, one, two}
use Rattle.theory.specs.Equality.{Equal, turned, joined}
use Rattle.theory.specs.Tables.{Shape, atom, unary, binary, Table, NodePairs, Closed, Generated, shape_at, EachPart, build_over, build_at, equations}
use Rattle.theory.specs.Costs.{Rule, RuleLaws, Settled, AtMost, cost_of, cost_over, spell, spelled}
use Rattle.theory.specs.Statements.{Spells, CheapestAt}
use Rattle.theory.proofs.Tables.{each_both}
use Rattle.theory.proofs.Grammar.{parts_in, generated_equal, equal_generated, completeness}

-- in a total order, to be no dearer is transitive
pub ties_of : {C : Type 0} (rule : Rule C) → ((a b c : C) → rule.below a b ≡ true → rule.below b c ≡ true → rule.below a c ≡ true)
    → ((a b : C) → rule.below a b ≡ false → rule.below b a ≡ false → a ≡ b)
    → (a b c : C) → AtMost rule a b → AtMost rule b c → AtMost rule a c
ties_of rule transitive total a b c p q = go (rule.below c a) refl (rule.below a b) refl
  where
    go : (v : Bool) → rule.below c a ≡ v → (w : Bool) → rule.below a b ≡ w → rule.below c a ≡ false
    go false e w f = e
    go true e true f = let z = transitive c a b e f in cc
    go true e false f = let z = total a b f p in cc

module _ {C : Type 0} (rule : Rule C) (laws : RuleLaws rule) where
  pub at_most_trans : (a b c : C) → AtMost rule a b → AtMost rule b c → AtMost rule a c
  at_most_trans a b c p q = laws.ties a b c p q

  module _ (t : Table) (class : ℕ → ℕ) (es : NodePairs) (closed : Closed t class es)
      (choice rank : ℕ → ℕ) (cost : ℕ → C) (settled : Settled rule t class choice rank cost) where
    -- the cost of class j is at most that of a node that could be chosen
    could : (j : ℕ) (x : Shape) → j < length t → shape_at t j ≡ x → EachPart (λ p. rank (class p) < rank (class j)) x
        → AtMost rule (cost (class j)) (cost_over rule (λ p. cost (class p)) x)
    could j x h e =
        subst
        (λ (y : Shape). EachPart (λ p. rank (class p) < rank (class j)) y → AtMost rule (cost (class j)) (cost_over rule (λ p. cost (class p)) y))
        e (settled.cheapest j h)

    -- and at most that of a node over a part that was settled no earlier
    late : (j p : ℕ) (a d : C) → j < length t → p < length t → rank (class j) ≤ rank (class p)
        → AtMost rule (cost (class p)) a → AtMost rule a d → AtMost rule (cost (class j)) d
    late j p a d h l r ih w =
        at_most_trans (cost (class j)) a d
        (at_most_trans (cost (class j)) (cost (class p)) a (settled.ordered j p h l r) ih) w

    one_part : (s : Name) (j p : ℕ) (a : C) → j < length t → p < length t → shape_at t j ≡ unary s p
        → AtMost rule (cost (class p)) a → AtMost rule (cost (class j)) (rule.cost_one s a)
    one_part s j p a h l e ih = go (dec_lt (rank (class p)) (rank (class j)))
      where
        go : Dec (rank (class p) < rank (class j)) → AtMost rule (cost (class j)) (rule.cost_one s a)
        go (yes r) =
            at_most_trans (cost (class j)) (rule.cost_one s (cost (class p))) (rule.cost_one s a)
            (could j (unary s p) h e r) (laws.growth_one s (cost (class p)) a ih)
        go (no r) = late j p a (rule.cost_one s a) h l (omega arith) ih (laws.weight_one s a)

    two_parts : (s : Name) (j p q : ℕ) (a b : C) → j < length t → p < length t → q < length t → shape_at t j ≡ binary s p q
        → AtMost rule (cost (class p)) a → AtMost rule (cost (class q)) b → AtMost rule (cost (class j)) (rule.cost_two s a b)
    two_parts s j p q a b h l m e ih ih' =
        go (dec_lt (rank (class p)) (rank (class j))) (dec_lt (rank (class q)) (rank (class j)))
      where
        go : Dec (rank (class p) < rank (class j)) → Dec (rank (class q) < rank (class j)) → AtMost rule (cost (class j)) (rule.cost_two s a b)
        go (no r) d = late j p a (rule.cost_two s a b) h l (omega arith) ih (laws.weight_left s a b)
        go (yes r) (no r') = late j q b (rule.cost_two s a b) h m (omega arith) ih' (laws.weight_right s a b)
        go (yes r) (yes r') =
            let x = cost (class p) in
            let y = cost (class q) in
            at_most_trans (cost (class j)) (rule.cost_two s x y) (rule.cost_two s a b) (could j (binary s p q) h e (r, r'))
            (at_most_trans (rule.cost_two s x y) (rule.cost_two s a y) (rule.cost_two s a b)
            (laws.growth_left s x a y ih) (laws.growth_right s y b a ih'))

    -- no build that is generated at a class is cheaper than the class
    bound : (u : Build) (k : ℕ) → Generated t class u k → AtMost rule (cost k) (cost_of rule u)
    bound (alone s) k a = subst (λ (n : ℕ). AtMost rule (cost n) (rule.cost_alone s)) a.2 (could a.0 (atom s) a.1 a.3 tt)
    bound (one s u) k a =
        let p = a.1 in
        let l = parts_in t class es closed a.0 (unary s p) a.2 a.4 in
        subst (λ (n : ℕ). AtMost rule (cost n) (rule.cost_one s (cost_of rule u))) a.3
        (one_part s a.0 p (cost_of rule u) a.2 l a.4 (bound u (class p) a.5))
    bound (two s u v) k a =
        let p = a.1 in
        let q = a.2 in
        let l = parts_in t class es closed a.0 (binary s p q) a.3 a.5 in
        subst (λ (n : ℕ). AtMost rule (cost n) (rule.cost_two s (cost_of rule u) (cost_of rule v))) a.4
        (two_parts s a.0 p q (cost_of rule u) (cost_of rule v) a.3 l.0 l.1 a.5
        (bound u (class p) a.6) (bound v (class q) a.7))

    -- u is generated at the class of node i, and costs what the class does
    abbrev Fits : Build → ℕ → Type 0
    Fits u i = Generated t class u (class i) × (cost_of rule u ≡ cost (class i))

    abbrev SpellsClass : ℕ → ℕ → Type 0
    SpellsClass f i = Fits (spell t class choice f (class i)) i

    spells_class : (f i : ℕ) → i < length t → rank (class i) < f → SpellsClass f i
    spells_class zero i h l = absurd (not-suc-le-zero l)
    spells_class (suc f) i h l =
        let n = settled.node i h in
        let j = choice (class i) in
        go (shape_at t j) refl
        (each_both (λ p. p < length t) (λ p. rank (class p) < rank (class i)) (SpellsClass f) (λ p m r. spells_class f p m (omega arith))
        (shape_at t j) (parts_in t class es closed j (shape_at t j) n refl) (settled.earlier i h))
        (settled.adds i h)
      where
        go : (x : Shape) → shape_at t (choice (class i)) ≡ x → EachPart (SpellsClass f) x → cost (class i) ≡ cost_over rule (λ p. cost (class p)) x
            → Fits (build_over (λ p. spell t class choice f (class p)) x) i
        go (atom s) e g a = ((choice (class i), settled.node i h, settled.own i h, e), sym a)
        go (unary s p) e g a = ((choice (class i), p, settled.node i h, settled.own i h, e, g.0), ap (rule.cost_one s) g.1 ∙ sym a)
        go (binary s p q) e g a =
            ((choice (class i), p, q, settled.node i h, settled.own i h, e, g.0.0, g.1.0), ap₂ (rule.cost_two s) g.0.1 g.1.1 ∙ sym a)

    equal : (i : ℕ) → i < length t → Equal (equations t es) (spelled t class choice rank i) (build_at t i)
    equal i h = generated_equal t class es closed (spelled t class choice rank i) i h (spells_class (suc (rank (class i))) i h (omega arith)).0

    costs : (i : ℕ) → i < length t → cost_of rule (spelled t class choice rank i) ≡ cost (class i)
    costs i h = (spells_class (suc (rank (class i))) i h (omega arith)).1

    spells : Spells rule t class es choice rank cost
    spells =
        record {
          equal = equal;
          costs = costs;
          least = λ i h u q.
              subst (λ (a : C). AtMost rule a (cost_of rule u)) (sym (costs i h)) (bound u (class i) (equal_generated t class es closed u i h q));
          same_spelling = λ i j h l. (
            λ e. joined (turned (equal i h)) (subst (λ (b : Build). Equal (equations t es) b (build_at t j)) (sym e) (equal j l)),
            λ q. ap (λ (k : ℕ). spell t class choice (suc (rank k)) k) ((completeness t class es closed i j h l).0 q),
          );
        }

pub cheapest_choices_lem : (C : Type 0) → CheapestAt C
cheapest_choices_lem C rule laws t class es closed choice rank cost settled = spells rule laws t class es closed choice rank cost settled
