-- What is true of a book's names, nodes and equations stays where the rows say the same of them.
use Rattle.std.proofs.Common.{◌≡◌, ℕ, ◌<◌, List, length, sym, ap, ◌∙◌, subst, subst₂, arith}
use Rattle.theory.specs.Names.{IsName}
use Rattle.theory.specs.Equality.{Equal}
use Rattle.theory.specs.Tables.{Table, NodePairs, build_at, equations}
use Rattle.book.specs.declared.row.Row.{Row}
use Rattle.book.specs.declared.row.Node.{Node}
use Rattle.book.specs.declared.row.Equation.{Equation}
use Rattle.book.specs.Rows.{row, class, trimmed, bare, shape_of}
use Rattle.book.specs.Layout.{Contents}
use Rattle.book.specs.Invariant.{Sound, Padded, Spelt, Named, Known, Distinct, Obeys, Follows}
use Rattle.book.proofs.Cores.{core, core_table, core_class}
use Rattle.book.proofs.Pairs.{same_pairs}

module _ (s : Contents) (K : Sound s) (zs : List Row) (names : (i : ℕ) → (row zs i).name ≡ (row s.rows i).name) where
  pub spelt_same : Spelt zs s.names
  spelt_same i h = subst (λ (b : List ℕ). IsName (trimmed b) × Padded b (trimmed b)) (sym (names i)) (K.spelt i h)

  pub named_same : Named zs s.names
  named_same i j h l e = K.named i j h l (sym (ap trimmed (names i)) ∙ e ∙ ap trimmed (names j))

module _ (s : Contents) (K : Sound s) (zs : List Row) (long : length zs ≡ length s.rows) (cores : (i : ℕ) → core (row zs i) ≡ core (row s.rows i))
    (said : (i : ℕ) → (row zs i).equation ≡ (row s.rows i).equation) where
  same_class : class zs ≡ class s.rows
  same_class = core_class s.rows zs cores

  pub known_same : Known zs s.names s.nodes
  known_same i h = let e = ap (λ (x : Node). x.symbol) (cores i) in omega (arith, K.known i h)

  pub distinct_same : Distinct zs s.nodes
  distinct_same i j h l e = K.distinct i j h l (sym (ap (shape_of bare) (cores i)) ∙ e ∙ ap (shape_of bare) (cores j))

  abbrev Side : Equation → Type 0
  Side e = (e.left < s.nodes) × (e.right < s.nodes) × (class zs e.left ≡ class zs e.right)

  pub obeys_same : Obeys zs s.nodes s.equations
  obeys_same i h =
      let o = K.obeys i h in
      subst Side (sym (said i))
      (subst (λ (f : ℕ → ℕ). (e : Equation) → (e.left < s.nodes) × (e.right < s.nodes) × (class s.rows e.left ≡ class s.rows e.right)
      → (e.left < s.nodes) × (e.right < s.nodes) × (f e.left ≡ f e.right)) (sym same_class) (λ e q. q) (row s.rows i).equation o)

  pub follows_same : Follows zs s.nodes s.equations
  follows_same i j h l e =
      subst₂ (λ (t : Table) (ps : NodePairs). Equal (equations t ps) (build_at t i) (build_at t j))
      (sym (core_table s.rows zs s.nodes K.nodes_fit.0 (omega (arith, K.nodes_fit.0)) cores))
      (sym (same_pairs s.rows zs s.equations K.equations_fit.0 (omega (arith, K.equations_fit.0)) (λ m q. ap (λ (e : Equation). (e.left, e.right)) (said m))))
      (K.follows i j h l (sym (ap (λ (f : ℕ → ℕ). f i) same_class) ∙ e ∙ ap (λ (f : ℕ → ℕ). f j) same_class))
