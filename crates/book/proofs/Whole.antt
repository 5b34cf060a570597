-- What the invariant of a book's type says: it is enough that a table be kept in some way, since equality is decided.
use Rattle.std.proofs.Common.{◌≡◌, ℕ, ◌<◌, ◌≤◌, length, sym, ap, ◌∙◌, subst, arith}
use mathlib.Core.Logic.{∥∥₁_elim, ∥∥₁_map}
use mathlib.Core.HLevel.{Π_prop, ×_prop}
use mathlib.Core.Bool.{Bool-set}
use mathlib.Core.List.{is_set}
use native.Mathlib.Bridge.{le_prop}
use native.Mathlib.Nat.{ℕ_set}
use Rattle.theory.proofs.Deciding.{some_equal}
use Rattle.book.specs.declared.row.Node.{Node}
use Rattle.book.specs.declared.row.Equation.{Equation}
use Rattle.book.specs.Rows.{row, table, bare, pairs_in, Tidy, no_node, no_equation}
use Rattle.book.specs.Layout.{Contents}
use Rattle.book.specs.Invariant.{Sound, Spelt, Distinct, Obeys, Follows, Blank}
use Rattle.book.specs.Held.{Kept}
use Rattle.book.proofs.Tables.{table_long, table_at, lower}
use Rattle.book.proofs.Pairs.{pairs_of}

module _ (s : Contents) (k : ∥ Sound s ∥₁) where
  tidy : Tidy s.rows s.nodes
  tidy i h = (
    ∥∥₁_elim k le_prop (λ (K : Sound s). (K.tidy i h).0),
    ∥∥₁_elim k (Π_prop (λ l. le_prop)) (λ (K : Sound s). (K.tidy i h).1),
    ∥∥₁_elim k (Π_prop (λ l. le_prop)) (λ (K : Sound s). (K.tidy i h).2),
    ∥∥₁_elim k (Π_prop (λ l. ℕ_set _ _)) (λ (K : Sound s). (K.tidy i h).3),
    ∥∥₁_elim k (Π_prop (λ l. ℕ_set _ _)) (λ (K : Sound s). (K.tidy i h).4),
  )

  spelt : Spelt s.rows s.names
  spelt i h = (
    record {
      some = ∥∥₁_elim k le_prop (λ (K : Sound s). (K.spelt i h).0.some);
      few = ∥∥₁_elim k le_prop (λ (K : Sound s). (K.spelt i h).0.few);
      bytes = λ j l. ∥∥₁_elim k (Bool-set _ _) (λ (K : Sound s). (K.spelt i h).0.bytes j l);
      first = ∥∥₁_elim k (Bool-set _ _) (λ (K : Sound s). (K.spelt i h).0.first);
    },
    record {
      long = ∥∥₁_elim k (ℕ_set _ _) (λ (K : Sound s). (K.spelt i h).1.long);
      bytes = λ j. ∥∥₁_elim k (ℕ_set _ _) (λ (K : Sound s). (K.spelt i h).1.bytes j);
    },
  )

  distinct : Distinct s.rows s.nodes
  distinct i j h l e = ∥∥₁_elim k (ℕ_set _ _) (λ (K : Sound s). K.distinct i j h l e)

  obeys : Obeys s.rows s.nodes s.equations
  obeys i h = (
    ∥∥₁_elim k le_prop (λ (K : Sound s). (K.obeys i h).0),
    ∥∥₁_elim k le_prop (λ (K : Sound s). (K.obeys i h).1),
    ∥∥₁_elim k (ℕ_set _ _) (λ (K : Sound s). (K.obeys i h).2),
  )

  nodes_in : s.nodes ≤ length s.rows
  nodes_in = ∥∥₁_elim k le_prop (λ (K : Sound s). K.nodes_fit.0)

  equations_in : s.equations ≤ length s.rows
  equations_in = ∥∥₁_elim k le_prop (λ (K : Sound s). K.equations_fit.0)

  -- classes say what is equal, and to be equal is decided
  follows : Follows s.rows s.nodes s.equations
  follows i j h l e =
      let T = table bare s.rows s.nodes in
      let z = table_long bare s.rows s.nodes nodes_in in
      some_equal T (pairs_in s.rows s.equations) (lower bare s.rows s.nodes nodes_in tidy)
      (λ a b p q g.
      let p' : a < s.nodes = omega arith in
      let q' : b < s.nodes = omega arith in
      distinct a b p' q' (sym (table_at bare s.rows s.nodes a nodes_in p') ∙ g ∙ table_at bare s.rows s.nodes b nodes_in q'))
      (λ a b m.
      let f = pairs_of s.rows s.equations (a, b) equations_in m in
      let o = obeys f.0 f.1 in
      subst (λ (e : ℕ × ℕ). (e.0 < length T) × (e.1 < length T)) (sym f.2) (omega (arith, o.0), omega (arith, o.1)))
      i j (omega arith) (omega arith)
      (∥∥₁_map k (λ (K : Sound s). K.follows i j h l e))

  -- field by field
  node_field : (f : Node → ℕ) (i : ℕ) → i < length s.rows → i < 1024 → s.nodes ≤ i → f (row s.rows i).node ≡ f no_node
  node_field f i h l q = ∥∥₁_elim k (ℕ_set _ _) (λ (K : Sound s). ap f ((K.blank i h l).1 q))

  blank_node : (i : ℕ) → i < length s.rows → i < 1024 → s.nodes ≤ i → (row s.rows i).node ≡ no_node
  blank_node i h l q =
      λ j. record {
        symbol = node_field (λ x. x.symbol) i h l q j;
        parts = node_field (λ x. x.parts) i h l q j;
        left = node_field (λ x. x.left) i h l q j;
        right = node_field (λ x. x.right) i h l q j;
        class = node_field (λ x. x.class) i h l q j;
        choice = node_field (λ x. x.choice) i h l q j;
      }

  equation_field : (f : Equation → ℕ) (i : ℕ) → i < length s.rows → i < 1024 → s.equations ≤ i → f (row s.rows i).equation ≡ f no_equation
  equation_field f i h l q = ∥∥₁_elim k (ℕ_set _ _) (λ (K : Sound s). ap f ((K.blank i h l).2 q))

  blank_equation : (i : ℕ) → i < length s.rows → i < 1024 → s.equations ≤ i → (row s.rows i).equation ≡ no_equation
  blank_equation i h l q =
      λ j. record { left = equation_field (λ x. x.left) i h l q j; right = equation_field (λ x. x.right) i h l q j }

  blank : Blank s.rows s.names s.nodes s.equations
  blank i h l = (
    λ q. ∥∥₁_elim k (is_set ℕ_set _ _) (λ (K : Sound s). (K.blank i h l).0 q),
    blank_node i h l,
    blank_equation i h l,
  )

  whole : Sound s
  whole =
      record {
        names_fit = ∥∥₁_elim k (×_prop le_prop le_prop) (λ (K : Sound s). K.names_fit);
        nodes_fit = ∥∥₁_elim k (×_prop le_prop le_prop) (λ (K : Sound s). K.nodes_fit);
        equations_fit = ∥∥₁_elim k (×_prop le_prop le_prop) (λ (K : Sound s). K.equations_fit);
        tidy = tidy;
        spelt = spelt;
        named = λ i j h l e. ∥∥₁_elim k (ℕ_set _ _) (λ (K : Sound s). K.named i j h l e);
        known = λ i h. ∥∥₁_elim k le_prop (λ (K : Sound s). K.known i h);
        distinct = distinct;
        based = λ i h. ∥∥₁_elim k (×_prop le_prop (ℕ_set _ _)) (λ (K : Sound s). K.based i h);
        level = λ i j h l e. ∥∥₁_elim k (ℕ_set _ _) (λ (K : Sound s). K.level i j h l e);
        obeys = obeys;
        follows = follows;
        blank = blank;
        unpriced = λ e i h. ∥∥₁_elim k (ℕ_set _ _) (λ (K : Sound s). K.unpriced e i h);
        priced = λ e i h. ∥∥₁_elim k le_prop (λ (K : Sound s). K.priced e i h);
      }

pub sound_of : (s : Contents) → ∥ Kept s ∥₁ → Sound s
sound_of s k = whole s (∥∥₁_map k (λ (K : Kept s). K.sound))
