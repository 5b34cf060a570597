-- Stages over bare symbols are stages over the names of a book: a rule asks for symbols, and no two have the same name.
use Rattle.std.proofs.Common.{◌≡◌, ℕ, zero, suc, ◌<◌, Bool, true, false, cond, eqb, List, [], ◌∷◌, map, length, get_or, take, sym, refl, ap, ◌∙◌, subst, ap₂, arith}
use mathlib.Core.Path.{fun_ext}
use Rattle.std.proofs.lemmas.Bool.{both_ways}
use Rattle.theory.specs.Names.{Name}
use Rattle.theory.specs.Tables.{Table, EachPart, shape_at}
use Rattle.theory.specs.Costs.{Rule, cost_over}
use Rattle.theory.specs.Stages.{done_in, cost_in, cost_at, Ready, Foremost, Staged, begin, stage, Stages}
use Rattle.theory.specs.Books.{symbol_of, table as table_of, class as class_at}
use Rattle.theory.proofs.Tables.{each_map}
use Rattle.theory.proofs.Symbols.{symbol_is}
use Rattle.price.specs.Rules.{rule_of}
use Rattle.book.specs.declared.row.Row.{Row}
use Rattle.book.specs.Rows.{row, class, shaped, shape_of, bare, name_of}
use Rattle.book.specs.Layout.{Contents, state_of}
use Rattle.book.specs.Invariant.{Sound}
use Rattle.book.proofs.Tables.{table_long, table_at}
use Rattle.book.proofs.States.{names_long, name_is, shapes_long, shape_is}
use Rattle.pricing.specs.Nodes.{table, bare_number}
use Rattle.pricing.proofs.Turns.{cost_over_same}

-- ---- one rule over one table, and another over another, where each node has the same parts and costs the same

module _ {C : Type 0} (rule rule' : Rule C) (t t' : Table) (class : ℕ → ℕ) (long : length t' ≡ length t)
    (below : (a b : C) → rule'.below a b ≡ rule.below a b)
    (costs : (f : ℕ → C) (i : ℕ) → i < length t → cost_over rule' f (shape_at t' i) ≡ cost_over rule f (shape_at t i))
    (to : (P : ℕ → Type 0) (i : ℕ) → i < length t → EachPart P (shape_at t i) → EachPart P (shape_at t' i))
    (from : (P : ℕ → Type 0) (i : ℕ) → i < length t → EachPart P (shape_at t' i) → EachPart P (shape_at t i)) where
  cost_at_from : (ms : List ℕ) → ((k : ℕ) → done_in class ms k ≡ true → cost_in rule' t' class ms k ≡ cost_in rule t class ms k)
      → (j : ℕ) → j < length t → EachPart (λ p. done_in class ms (class p) ≡ true) (shape_at t j)
      → cost_at rule' t' class ms j ≡ cost_at rule t class ms j
  cost_at_from ms e j h d =
      cost_over_same rule' (λ p. cost_in rule' t' class ms (class p)) (λ p. cost_in rule t class ms (class p)) (shape_at t' j)
      (each_map (λ p. done_in class ms (class p) ≡ true) (λ p. cost_in rule' t' class ms (class p) ≡ cost_in rule t class ms (class p))
      (λ p q. e (class p) q) (shape_at t' j) (to (λ p. done_in class ms (class p) ≡ true) j h d))
      ∙ costs (λ p. cost_in rule t class ms (class p)) j h

  -- a settled class costs the same
  pub cost_in_same : {ms : List ℕ} → Staged rule t class ms → (k : ℕ) → done_in class ms k ≡ true
      → cost_in rule' t' class ms k ≡ cost_in rule t class ms k
  cost_in_same begin k e = absurd (both_ways false refl e)
  cost_in_same (stage {ms} {m} s f) k e =
      go (eqb (class m) k) e (cost_at_from ms (cost_in_same s) m f.ready.here f.ready.parts) (cost_in_same s k)
    where
      go : (v : Bool) → cond v true (done_in class ms k) ≡ true → cost_at rule' t' class ms m ≡ cost_at rule t class ms m
          → (done_in class ms k ≡ true → cost_in rule' t' class ms k ≡ cost_in rule t class ms k)
          → cond v (cost_at rule' t' class ms m) (cost_in rule' t' class ms k) ≡ cond v (cost_at rule t class ms m) (cost_in rule t class ms k)
      go true d a ih = a
      go false d a ih = ih d

  module _ {ms : List ℕ} (s : Staged rule t class ms) where
    same_at : (j : ℕ) → j < length t → EachPart (λ p. done_in class ms (class p) ≡ true) (shape_at t j)
        → cost_at rule' t' class ms j ≡ cost_at rule t class ms j
    same_at = cost_at_from ms (cost_in_same s)

    ready_from : (j : ℕ) → Ready t' class ms j → Ready t class ms j
    ready_from j r =
        let h : j < length t = omega (arith, r.here) in
        record { here = h; open_yet = r.open_yet; parts = from (λ p. done_in class ms (class p) ≡ true) j h r.parts }

    foremost_same : (m : ℕ) → Foremost rule t class ms m → Foremost rule' t' class ms m
    foremost_same m f =
        let w = f.ready in
        let a = same_at m w.here w.parts in
        record {
          ready = record {
            here = omega (arith, w.here);
            open_yet = w.open_yet;
            parts = to (λ p. done_in class ms (class p) ≡ true) m w.here w.parts;
          };
          cheapest = λ j r.
              let v = ready_from j r in
              below _ _ ∙ ap₂ rule.below (same_at j v.here v.parts) a ∙ f.cheapest j v;
          lowest = λ j r e.
              let v = ready_from j r in
              f.lowest j v (sym (below _ _ ∙ ap₂ rule.below a (same_at j v.here v.parts)) ∙ e);
        }

  staged_same : {ms : List ℕ} → Staged rule t class ms → Staged rule' t' class ms
  staged_same begin = begin
  staged_same (stage {ms} {m} s f) = stage (staged_same s) (foremost_same s m f)

  pub stages_same : {ms : List ℕ} → Stages rule t class ms → Stages rule' t' class ms
  stages_same s = record { staged = staged_same s.staged; all = λ i h. s.all i (omega arith) }

-- ---- the nodes of a book, by bare symbols and by names

-- one field of the rows, past the end too
class_column : (xs : List Row) (i : ℕ) → get_or (map (λ (r : Row). r.node.class) xs) i 0 ≡ class xs i
class_column [] i = refl
class_column (x ∷ xs) zero = refl
class_column (x ∷ xs) (suc i) = class_column xs i

-- a node's shape by other names for the symbols
module _ {R C : Type 0} (below : C → C → Bool) (alone : R → ℕ → C) (one : R → ℕ → C → C) (two : R → ℕ → C → C → C) (r : R) where
  cost_shaped : (number : Name → ℕ) (nm : ℕ → Name) (f : ℕ → C) (x p l q : ℕ) → number (nm x) ≡ x
      → cost_over (rule_of below alone one two r number) f (shaped nm x p l q)
      ≡ cost_over (rule_of below alone one two r bare_number) f (shaped bare x p l q)
  cost_shaped number nm f x zero l q e = ap (alone r) e
  cost_shaped number nm f x (suc zero) l q e = ap (λ (k : ℕ). one r k (f l)) e
  cost_shaped number nm f x (suc (suc k)) l q e = ap (λ (k : ℕ). two r k (f l) (f q)) e

parts_shaped : (P : ℕ → Type 0) (nm to : ℕ → Name) (x p l q : ℕ) → EachPart P (shaped nm x p l q) → EachPart P (shaped to x p l q)
parts_shaped P nm to x zero l q e = e
parts_shaped P nm to x (suc zero) l q e = e
parts_shaped P nm to x (suc (suc k)) l q e = e

module _ (s : Contents) (K : Sound s) where
  -- the classes, past the end too
  pub same_class : class (take s.nodes s.rows) ≡ class_at (state_of s)
  same_class = fun_ext (λ i. sym (class_column (take s.nodes s.rows) i))

  -- the symbol of a node's name
  symbol_here : (i : ℕ) → i < s.nodes → symbol_of (state_of s).names (name_of s.rows (row s.rows i).node.symbol) ≡ (row s.rows i).node.symbol
  symbol_here i h =
      let n = names_long s K in
      let x = (row s.rows i).node.symbol in
      ap (symbol_of (state_of s).names) (sym (name_is s K x (K.known i h)))
      ∙ symbol_is (state_of s).names
      (λ j k a b e.
      let a' : j < s.names = omega arith in
      let b' : k < s.names = omega arith in
      K.named j k a' b' (sym (name_is s K j a') ∙ e ∙ name_is s K k b'))
      x (omega (arith, K.known i h))

  module _ {R C : Type 0} (below : C → C → Bool) (alone : R → ℕ → C) (one : R → ℕ → C → C) (two : R → ℕ → C → C → C) (r : R) where
    abbrev bare_one : Rule C
    bare_one = rule_of below alone one two r bare_number

    abbrev named_one : Rule C
    named_one = rule_of below alone one two r (symbol_of (state_of s).names)

    long : length (table_of (state_of s)) ≡ length (table (take s.nodes s.rows))
    long = shapes_long s K ∙ sym (table_long bare s.rows s.nodes K.nodes_fit.0)

    in_rows : (i : ℕ) → i < length (table (take s.nodes s.rows)) → i < s.nodes
    in_rows i h = omega (arith, table_long bare s.rows s.nodes K.nodes_fit.0)

    bare_is : (i : ℕ) → i < s.nodes → shape_at (table (take s.nodes s.rows)) i ≡ shape_of bare (row s.rows i).node
    bare_is i h = table_at bare s.rows s.nodes i K.nodes_fit.0 h

    costs : (f : ℕ → C) (i : ℕ) → i < length (table (take s.nodes s.rows))
        → cost_over named_one f (shape_at (table_of (state_of s)) i) ≡ cost_over bare_one f (shape_at (table (take s.nodes s.rows)) i)
    costs f i h =
        let l = in_rows i h in
        let x = (row s.rows i).node in
        ap (cost_over named_one f) (shape_is s K i l)
        ∙ cost_shaped below alone one two r (symbol_of (state_of s).names) (name_of s.rows) f x.symbol x.parts x.left x.right (symbol_here i l)
        ∙ sym (ap (cost_over bare_one f) (bare_is i l))

    to : (P : ℕ → Type 0) (i : ℕ) → i < length (table (take s.nodes s.rows)) → EachPart P (shape_at (table (take s.nodes s.rows)) i)
        → EachPart P (shape_at (table_of (state_of s)) i)
    to P i h e =
        let l = in_rows i h in
        let x = (row s.rows i).node in
        subst (EachPart P) (sym (shape_is s K i l))
        (parts_shaped P bare (name_of s.rows) x.symbol x.parts x.left x.right (subst (EachPart P) (bare_is i l) e))

    from : (P : ℕ → Type 0) (i : ℕ) → i < length (table (take s.nodes s.rows)) → EachPart P (shape_at (table_of (state_of s)) i)
        → EachPart P (shape_at (table (take s.nodes s.rows)) i)
    from P i h e =
        let l = in_rows i h in
        let x = (row s.rows i).node in
        subst (EachPart P) (sym (bare_is i l))
        (parts_shaped P (name_of s.rows) bare x.symbol x.parts x.left x.right (subst (EachPart P) (shape_is s K i l) e))

    module _ {ms : List ℕ} (S : Stages bare_one (table (take s.nodes s.rows)) (class (take s.nodes s.rows)) ms) where
      pub stages_named : Stages named_one (table_of (state_of s)) (class_at (state_of s)) ms
      stages_named =
          subst (λ (f : ℕ → ℕ). Stages named_one (table_of (state_of s)) f ms) same_class
          (stages_same bare_one named_one (table (take s.nodes s.rows)) (table_of (state_of s)) (class (take s.nodes s.rows))
          long (λ a b. refl) costs to from S)

      pub cost_named_in : (k : ℕ) → done_in (class (take s.nodes s.rows)) ms k ≡ true
          → cost_in bare_one (table (take s.nodes s.rows)) (class (take s.nodes s.rows)) ms k
          ≡ cost_in named_one (table_of (state_of s)) (class_at (state_of s)) ms k
      cost_named_in k e =
          sym (cost_in_same bare_one named_one (table (take s.nodes s.rows)) (table_of (state_of s)) (class (take s.nodes s.rows))
          long (λ a b. refl) costs to from S.staged k e)
          ∙ ap (λ (f : ℕ → ℕ). cost_in named_one (table_of (state_of s)) f ms k) same_class
