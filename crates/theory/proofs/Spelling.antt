-- A priced book spells one build for each node: equal to the node's, lawful, and nothing equal is cheaper.
use Rattle.std.proofs.Common.{◌≡◌, ℕ, zero, suc, ◌<◌, Bool, true, false, cond, List, length, get_or, sym, refl, ap, ◌∙◌, subst, ap₂, not-suc-le-zero, arith}
use mathlib.Core.List.Memᴰ
use mathlib.Core.List.{Memᴰ}
use Rattle.std.proofs.lemmas.Bool.{both_ways}
use Rattle.theory.specs.Names.{Name, IsName}
use Rattle.theory.specs.Builds.{Build, alone, one, two, Lawful}
use Rattle.theory.specs.Equality.{Equal, given, same, turned, joined}
use Rattle.theory.specs.Tables.{Shape, atom, unary, binary, Table, PartsFirst, Closed, shape_at, EachPart, build_over}
use Rattle.theory.specs.Costs.{Rule, RuleLaws, Settled, Cheaper, LawfulOrder, cost_of, by_builds, cheaper_by, spell, spelled}
use Rattle.theory.specs.Steps.{Partway}
use Rattle.theory.specs.Stages.{choice_in, cost_in, cost_at, Stages}
use Rattle.theory.specs.Statements.{Spells}
use Rattle.theory.specs.Books.{
  Node,
  leaf,
  over,
  pair,
  symbol,
  shape,
  State,
  Book,
  Chosen,
  Alike,
  IsNode,
  IsSymbol,
  table,
  build,
  node_at,
  class,
  choice,
  equations_in,
  with_choices,
}
use Rattle.theory.specs.Spelling.{Spelled, PricedStands}
use Rattle.theory.proofs.Tables.{each_map, each_both, build_step}
use Rattle.theory.proofs.Closing.{closing}
use Rattle.theory.proofs.Costs.{cheapest_choices_lem}
use Rattle.theory.proofs.Stages.{rank_in, settled_by, rank_short, choice_node, cost_of_in, by_order}
use Rattle.theory.proofs.Books.{table_length, shape_is, each_of}

-- ---- the table of a book is closed

pub is_node : (s : State) (i : ℕ) → i < length (table s) → IsNode s i
is_node s i h = omega (arith, table_length s)

pub in_table : (s : State) (i : ℕ) → IsNode s i → i < length (table s)
in_table s i h = omega (arith, table_length s)

module _ (s : State) (B : Book s) where
  pub parts_first : PartsFirst (table s)
  parts_first i h =
      let k = is_node s i h in
      subst (EachPart (λ p. p < i)) (sym (shape_is s i k)) (each_of (λ p. p < i) s.names (node_at s i) (B.lower i k))

  -- nodes with equal builds are of one class
  pub one_class_of : (i j : ℕ) → IsNode s i → IsNode s j → Alike s i j → class s i ≡ class s j
  one_class_of i j h l q =
      let a = B.lowest i h in
      let b = B.lowest j l in
      omega (arith, a.low (class s j) b.here (joined b.alike (turned q)), b.low (class s i) a.here (joined a.alike q))

  alike_of : (i j : ℕ) → IsNode s i → IsNode s j → class s i ≡ class s j → Alike s i j
  alike_of i j h l e =
      joined (turned (B.lowest i h).alike) (subst (λ (k : ℕ). Alike s k j) (sym e) (B.lowest j l).alike)

  partway : Partway (table s) (class s) s.equated
  partway =
      record {
        lower = parts_first;
        least = λ i h. (B.lowest i (is_node s i h)).low i (is_node s i h) same;
        fixed = λ i h.
            let L = B.lowest i (is_node s i h) in
            one_class_of (class s i) i L.here (is_node s i h) L.alike;
        sound = λ i j h l e. alike_of i j (is_node s i h) (is_node s j l) e;
      }

  distinct : (i j : ℕ) → i < length (table s) → j < length (table s) → shape_at (table s) i ≡ shape_at (table s) j → i ≡ j
  distinct i j h l e =
      B.builds_apart i j (is_node s i h) (is_node s j l)
      (build_step (table s) i h (parts_first i h) ∙ ap (build_over (build s)) e ∙ sym (build_step (table s) j l (parts_first j l)))

  joins : (i j : ℕ) → Memᴰ (i, j) s.equated → (i < length (table s)) × (j < length (table s)) × (class s i ≡ class s j)
  joins i j m =
      let g = B.between i j m in
      let q : Alike s i j = given (Memᴰ.map (λ (e : ℕ × ℕ). (build s e.0, build s e.1)) m) in
      (in_table s i g.0, in_table s j g.1, one_class_of i j g.0 g.1 q)

  pub closed_book : Closed (table s) (class s) s.equated
  closed_book =
      record {
        lower = parts_first;
        least = partway.least;
        fixed = partway.fixed;
        congruent = λ i j h l e.
            one_class_of i j (is_node s i h) (is_node s j l) (closing.alike (table s) (class s) s.equated partway i j h l e);
        joined = joins;
        sound = partway.sound;
        distinct = distinct;
      }

-- ---- one build at most is spelled

pub spelled_once : (s : State) (u v : Build) (n : ℕ) → Spelled s n u → Spelled s n v → u ≡ v
spelled_once s (alone x) (alone y) n a b = cc
spelled_once s (alone x) (one y v) n a b = let e = b.1 in cc
spelled_once s (alone x) (two y v w) n a b = let e = b.2 in cc
spelled_once s (one x u) (alone y) n a b = let e = a.1 in cc
spelled_once s (one x u) (one y v) n a b =
    let e = a.1 in
    let f = b.1 in
    let p : a.0 ≡ b.0 = cc in
    let r = spelled_once s u v a.0 a.2 (subst (λ (m : ℕ). Spelled s m v) (sym p) b.2) in
    cc
spelled_once s (one x u) (two y v w) n a b = let e = a.1 in let f = b.2 in cc
spelled_once s (two x u u') (alone y) n a b = let e = a.2 in cc
spelled_once s (two x u u') (one y v) n a b = let e = a.2 in let f = b.1 in cc
spelled_once s (two x u u') (two y v v') n a b =
    let e = a.2 in
    let f = b.2 in
    let p : a.0 ≡ b.0 = cc in
    let q : a.1 ≡ b.1 = cc in
    let r = spelled_once s u v a.0 a.3 (subst (λ (m : ℕ). Spelled s m v) (sym p) b.3) in
    let r' = spelled_once s u' v' a.1 a.4 (subst (λ (m : ℕ). Spelled s m v') (sym q) b.4) in
    cc

-- ---- what is spelled with so much fuel

-- each part passes the test
abbrev pub every : (ℕ → Bool) → Shape → Bool
every f (atom x) = true
every f (unary x p) = f p
every f (binary x p q) = cond (f p) (f q) false

-- the fuel suffices to spell the class k
abbrev pub ends : Table → (ℕ → ℕ) → (ℕ → ℕ) → ℕ → ℕ → Bool
ends t class choice zero k = false
ends t class choice (suc f) k = every (λ p. ends t class choice f (class p)) (shape_at t (choice k))

every_of : (f : ℕ → Bool) (x : Shape) → EachPart (λ p. f p ≡ true) x → every f x ≡ true
every_of f (atom x) e = refl
every_of f (unary x p) e = e
every_of f (binary x p q) e = ap (λ (v : Bool). cond v (f q) false) e.0 ∙ e.1

of_every : (f : ℕ → Bool) (x : Shape) → every f x ≡ true → EachPart (λ p. f p ≡ true) x
of_every f (atom x) e = tt
of_every f (unary x p) e = e
of_every f (binary x p q) e = go (f p) refl e
  where
    go : (v : Bool) → f p ≡ v → cond v (f q) false ≡ true → (f p ≡ true) × (f q ≡ true)
    go true a b = (a, b)
    go false a b = absurd (both_ways false refl b)

-- a node is spelled as its choice over what its choice's parts are spelled as
spelled_over : (s : State) (n : ℕ) (f : ℕ → Build) (x : Shape) → shape_at (table s) (choice s n) ≡ x → EachPart (λ p. Spelled s p (f p)) x
    → Spelled s n (build_over f x)
spelled_over s n f (atom x) e a = e
spelled_over s n f (unary x p) e a = (p, e, a)
spelled_over s n f (binary x p q) e a = (p, q, e, a.0, a.1)

-- the parts of choices are nodes
pub choice_parts : (s : State) → PartsFirst (table s) → ((i : ℕ) → IsNode s i → IsNode s (choice s i))
    → (i : ℕ) → IsNode s i → EachPart (IsNode s) (shape_at (table s) (choice s i))
choice_parts s lower chosen i h =
    let k = chosen i h in
    each_map (λ p. p < choice s i) (IsNode s) (λ p l. omega arith) (shape_at (table s) (choice s i)) (lower (choice s i) (in_table s (choice s i) k))

-- where the fuel suffices, this is what is spelled
pub spelled_ends : (s : State) → ((i : ℕ) → IsNode s i → choice s i ≡ choice s (class s i))
    → ((i : ℕ) → IsNode s i → EachPart (IsNode s) (shape_at (table s) (choice s i)))
    → (f n : ℕ) → IsNode s n → ends (table s) (class s) (choice s) f (class s n) ≡ true
    → Spelled s n (spell (table s) (class s) (choice s) f (class s n))
spelled_ends s shared parts zero n h e = absurd (both_ways false refl e)
spelled_ends s shared parts (suc f) n h e =
    let go = λ (p : ℕ). spell (table s) (class s) (choice s) f (class s p) in
    let k = shared n h in
    subst (λ (c : ℕ). Spelled s n (build_over go (shape_at (table s) c))) k
    (spelled_over s n go (shape_at (table s) (choice s n)) refl
    (each_both (IsNode s) (λ p. ends (table s) (class s) (choice s) f (class s p) ≡ true) (λ p. Spelled s p (go p))
    (λ p l d. spelled_ends s shared parts f p l d) (shape_at (table s) (choice s n)) (parts n h)
    (of_every (λ p. ends (table s) (class s) (choice s) f (class s p)) (shape_at (table s) (choice s n))
    (ap (λ (c : ℕ). every (λ p. ends (table s) (class s) (choice s) f (class s p)) (shape_at (table s) c)) k ∙ e))))

-- ---- every name that is spelled is lawful

name_of : Shape → Name
name_of (atom x) = x
name_of (unary x p) = x
name_of (binary x p q) = x

module _ (s : State) (B : Book s) (chosen : (i : ℕ) → IsNode s i → IsNode s (choice s i)) where
  formed_at : (x : Node) → IsSymbol s (symbol x) → IsName (name_of (shape s.names x))
  unfolding name_of
  formed_at (leaf k) h = B.formed k h
  formed_at (over k p) h = B.formed k h
  formed_at (pair k p q) h = B.formed k h

  -- the choice of node n is of the shape x
  lawful_name : (n : ℕ) (x : Shape) → IsNode s n → shape_at (table s) (choice s n) ≡ x → IsName (name_of x)
  lawful_name n x h e =
      let k = chosen n h in
      subst (λ (y : Shape). IsName (name_of y)) (sym (shape_is s (choice s n) k) ∙ e) (formed_at (node_at s (choice s n)) (B.symbols (choice s n) k))

  parts_at : (n : ℕ) (x : Shape) → IsNode s n → shape_at (table s) (choice s n) ≡ x → EachPart (IsNode s) x
  parts_at n x h e = subst (EachPart (IsNode s)) e (choice_parts s (parts_first s B) chosen n h)

  pub spelled_lawful : (u : Build) (n : ℕ) → IsNode s n → Spelled s n u → Lawful u
  unfolding name_of
  spelled_lawful (alone x) n h a = lawful_name n (atom x) h a
  spelled_lawful (one x u) n h a =
      (lawful_name n (unary x a.0) h a.1, spelled_lawful u a.0 (parts_at n (unary x a.0) h a.1) a.2)
  spelled_lawful (two x u v) n h a =
      let l = parts_at n (binary x a.0 a.1) h a.2 in
      (lawful_name n (binary x a.0 a.1) h a.2, spelled_lawful u a.0 l.0 a.3, spelled_lawful v a.1 l.1 a.4)

-- ---- choices from stages

module _ {C : Type 0} (rule : Rule C) (s : State) (closed : Closed (table s) (class s) s.equated) {ms : List ℕ}
    (stages : Stages rule (table s) (class s) ms) (choices : (i : ℕ) → IsNode s i → choice s i ≡ choice_in (class s) ms (class s i)) where
  in_class : (i : ℕ) → i < length (table s) → class s i < length (table s)
  in_class i h = omega (arith, closed.least i h)

  class_choice : (i : ℕ) → i < length (table s) → choice s (class s i) ≡ choice_in (class s) ms (class s i)
  class_choice i h = choices (class s i) (is_node s (class s i) (in_class i h)) ∙ ap (choice_in (class s) ms) (closed.fixed i h)

  shared : (i : ℕ) → IsNode s i → choice s i ≡ choice s (class s i)
  shared i h = choices i h ∙ sym (class_choice i (in_table s i h))

  chosen_node : (i : ℕ) → IsNode s i → IsNode s (choice s i)
  chosen_node i h =
      omega (
        arith,
        table_length s,
        choices i h,
        choice_node rule (table s) (class s) (omega (arith, in_table s i h)) stages.staged (class s i),
      )

  module _ (laws : RuleLaws rule) where
    settled : Settled rule (table s) (class s) (choice s) (rank_in (class s) ms) (cost_in rule (table s) (class s) ms)
    settled =
        let S = settled_by rule (table s) (class s) laws closed.lower stages in
        record {
          node = λ i h. subst (λ (c : ℕ). c < length (table s)) (sym (class_choice i h)) (S.node i h);
          own = λ i h. subst (λ (c : ℕ). class s c ≡ class s i) (sym (class_choice i h)) (S.own i h);
          earlier = λ i h.
              subst (λ (c : ℕ). EachPart (λ p. rank_in (class s) ms (class s p) < rank_in (class s) ms (class s i)) (shape_at (table s) c))
              (sym (class_choice i h)) (S.earlier i h);
          adds = λ i h. S.adds i h ∙ ap (λ (c : ℕ). cost_at rule (table s) (class s) ms c) (sym (class_choice i h));
          ordered = S.ordered;
          cheapest = S.cheapest;
        }

    -- fuel past the rank suffices
    ends_past : (f n : ℕ) → n < length (table s) → rank_in (class s) ms (class s n) < f → ends (table s) (class s) (choice s) f (class s n) ≡ true
    ends_past zero n h l = absurd (not-suc-le-zero l)
    ends_past (suc f) n h l =
        let c = choice s (class s n) in
        let k = settled.node n h in
        every_of (λ p. ends (table s) (class s) (choice s) f (class s p)) (shape_at (table s) c)
        (each_both (λ p. p < c) (λ p. rank_in (class s) ms (class s p) < rank_in (class s) ms (class s n))
        (λ p. ends (table s) (class s) (choice s) f (class s p) ≡ true)
        (λ p a b. ends_past f p (omega arith) (omega arith)) (shape_at (table s) c) (closed.lower c k) (settled.earlier n h))

    ends_long : (n : ℕ) → IsNode s n → ends (table s) (class s) (choice s) (length s.nodes) (class s n) ≡ true
    ends_long n h =
        let k = in_table s n h in
        ends_past (length s.nodes) n k
        (omega (arith, table_length s, rank_short rule (table s) (class s) in_class stages.staged (class s n) (stages.all n k)))

    spelled_from : (f n : ℕ) → IsNode s n → ends (table s) (class s) (choice s) f (class s n) ≡ true
        → Spelled s n (spell (table s) (class s) (choice s) f (class s n))
    spelled_from f n h e = spelled_ends s shared (choice_parts s closed.lower chosen_node) f n h e

    -- the build that node n spells
    abbrev the : ℕ → Build
    the n = spelled (table s) (class s) (choice s) (rank_in (class s) ms) n

    is_the : (n : ℕ) → IsNode s n → Spelled s n (the n)
    is_the n h =
        let f = suc (rank_in (class s) ms (class s n)) in
        spelled_from f n h (ends_past f n (in_table s n h) (omega arith))

    only_the : (n : ℕ) → IsNode s n → (u : Build) → Spelled s n u → the n ≡ u
    only_the n h u a = spelled_once s (the n) u n (is_the n h) a

    spells : Spells rule (table s) (class s) s.equated (choice s) (rank_in (class s) ms) (cost_in rule (table s) (class s) ms)
    spells =
        cheapest_choices_lem C rule laws (table s) (class s) s.equated closed (choice s) (rank_in (class s) ms)
        (cost_in rule (table s) (class s) ms) settled

-- ---- a book with a pricing in force

module _ (s : State) (B : Book s) (cheaper : Cheaper) (K : Chosen s cheaper s.choices) where
  -- a class shares its choice
  pub choices_shared : (i : ℕ) → IsNode s i → choice s i ≡ choice s (class s i)
  choices_shared i h = shared (by_builds cheaper) s (closed_book s B) K.stages K.choices i h

  -- a choice is a node
  pub choices_nodes : (i : ℕ) → IsNode s i → IsNode s (choice s i)
  choices_nodes i h = chosen_node (by_builds cheaper) s (closed_book s B) K.stages K.choices i h

module _ (s : State) (B : Book s) (cheaper : Cheaper) (lawful : LawfulOrder cheaper) (K : Chosen s cheaper s.choices) where
  pub ends_all : (n : ℕ) → IsNode s n → ends (table s) (class s) (choice s) (length s.nodes) (class s n) ≡ true
  ends_all n h = ends_long (by_builds cheaper) s (closed_book s B) K.stages K.choices lawful n h

  pub spelled_is : (n : ℕ) → IsNode s n → Spelled s n (spell (table s) (class s) (choice s) (length s.nodes) (class s n))
  spelled_is n h =
      spelled_from (by_builds cheaper) s (closed_book s B) K.stages K.choices lawful (length s.nodes) n h (ends_all n h)

-- a build is its own cost
cost_self : (cheaper : Cheaper) (u : Build) → cost_of (by_builds cheaper) u ≡ u
cost_self cheaper (alone x) = refl
cost_self cheaper (one x u) = ap (one x) (cost_self cheaper u)
cost_self cheaper (two x u v) = ap₂ (two x) (cost_self cheaper u) (cost_self cheaper v)

pub priced_stands : PricedStands
priced_stands s B cheaper lawful K =
    let closed = closed_book s B in
    let S = spells (by_builds cheaper) s closed K.stages K.choices lawful in
    let v = the (by_builds cheaper) s closed K.stages K.choices lawful in
    let only : (n : ℕ) → IsNode s n → (u : Build) → Spelled s n u → v n ≡ u
    = only_the (by_builds cheaper) s closed K.stages K.choices lawful in
    record {
      some = λ n h. (v n, is_the (by_builds cheaper) s closed K.stages K.choices lawful n h);
      only = λ n u w a b. spelled_once s u w n a b;
      equal = λ n h u a. subst (λ (w : Build). Equal (equations_in s) w (build s n)) (only n h u a) (S.equal n (in_table s n h));
      least = λ n h u a w q.
          ap₂ cheaper (sym (cost_self cheaper w)) (sym (only n h u a) ∙ sym (cost_self cheaper (v n))) ∙ S.least n (in_table s n h) w q;
      same_spelling = λ m n h l u w a b. (
        λ e. (S.same_spelling m n (in_table s m h) (in_table s n l)).0 (only m h u a ∙ e ∙ sym (only n l w b)),
        λ q. sym (only m h u a) ∙ (S.same_spelling m n (in_table s m h) (in_table s n l)).1 q ∙ only n l w b,
      );
    }

-- what is spelled for a node costs what its class costs
pub spelled_cost : {C : Type 0} (rule : Rule C) → LawfulOrder (cheaper_by rule) → (s : State) → Book s → {ms : List ℕ}
    → Stages rule (table s) (class s) ms → (cs : List ℕ)
    → ((i : ℕ) → IsNode s i → get_or cs i 0 ≡ choice_in (class s) ms (class s i))
    → (n : ℕ) → IsNode s n → (u : Build) → Spelled (with_choices s cs) n u
    → cost_of rule u ≡ cost_in rule (table s) (class s) ms (class s n)
spelled_cost rule lawful s B {ms} stages cs choices n h u a =
    let order = by_builds (cheaper_by rule) in
    let s' = with_choices s cs in
    let stages' = by_order rule (table s) (class s) stages in
    let closed = closed_book s B in
    let v = the order s' closed stages' choices lawful n in
    let e : v ≡ cost_in order (table s) (class s) ms (class s n)
    = sym (cost_self (cheaper_by rule) v) ∙ (spells order s' closed stages' choices lawful).costs n (in_table s n h) in
    ap (cost_of rule) (sym (only_the order s' closed stages' choices lawful n h u a) ∙ e) ∙ cost_of_in rule (table s) (class s) ms (class s n)
