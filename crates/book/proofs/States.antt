-- What the state of a sound book says, read off its rows.
use Rattle.std.proofs.Common.{◌≡◌, ℕ, zero, suc, ◌-◌, ◌<◌, Bool, true, cond, List, [], map, length, get_or, take, sym, refl, ap, ◌∙◌, subst, arith}
use Rattle.std.proofs.lemmas.List.{ext_get_or}
use Rattle.theory.specs.Names.{Name}
use Rattle.theory.specs.Tables.{atom, Table, shape_at, Closed}
use Rattle.theory.specs.Books.{Parts, symbol, shape, table as table_of, name_at, node_at, class as class_at, choice}
use Rattle.theory.proofs.Books.{table_length, shape_is as shape_named}
use Rattle.book.specs.declared.row.Row.{Row}
use Rattle.book.specs.declared.row.Node.{Node}
use Rattle.book.specs.Rows.{row, class, shaped, shape_of, table, trimmed, name_of, pairs_in, TidyNode}
use Rattle.book.specs.Layout.{Contents, entry, entry_of, state_of}
use Rattle.book.specs.Invariant.{Sound}
use Rattle.book.proofs.Columns.{column_long, column_at}
use Rattle.book.proofs.Tables.{table_long, table_at}
use Rattle.book.proofs.Renaming.{closed}

pub entry_symbol : (x p l r : ℕ) → symbol (entry x p l r) ≡ x
entry_symbol x zero l r = refl
entry_symbol x (suc zero) l r = refl
entry_symbol x (suc (suc k)) l r = refl

entry_parts : (P : ℕ → Type 0) (x p l r : ℕ) → (0 < p → P l) → (1 < p → P r) → Parts P (entry x p l r)
entry_parts P x zero l r f g = tt
entry_parts P x (suc zero) l r f g = f (omega arith)
entry_parts P x (suc (suc k)) l r f g = (f (omega arith), g (omega arith))

pub entry_lower : (i : ℕ) (x : Node) → TidyNode i x → Parts (λ p. p < i) (entry_of x)
entry_lower i x T = entry_parts (λ p. p < i) x.symbol x.parts x.left x.right T.1 T.2

-- a node by its symbol's name
entry_shape : (ns : List Name) (nm : ℕ → Name) (x p l r : ℕ) → get_or ns x [] ≡ nm x → shape ns (entry x p l r) ≡ shaped nm x p l r
entry_shape ns nm x zero l r e = cc
entry_shape ns nm x (suc zero) l r e = cc
entry_shape ns nm x (suc (suc k)) l r e = cc

module _ (s : Contents) (K : Sound s) where
  pub names_long : length (state_of s).names ≡ s.names
  names_long = column_long (λ (r : Row). trimmed r.name) s.rows s.names K.names_fit.0

  pub nodes_long : length (state_of s).nodes ≡ s.nodes
  nodes_long = column_long (λ (r : Row). entry_of r.node) s.rows s.nodes K.nodes_fit.0

  pub classes_long : length (state_of s).classes ≡ s.nodes
  classes_long = column_long (λ (r : Row). r.node.class) s.rows s.nodes K.nodes_fit.0

  pub equated_long : length (state_of s).equated ≡ s.equations
  equated_long = column_long (λ (r : Row). (r.equation.left, r.equation.right)) s.rows s.equations K.equations_fit.0

  pub name_is : (i : ℕ) → i < s.names → name_at (state_of s) i ≡ name_of s.rows i
  name_is i h = column_at (λ (r : Row). trimmed r.name) s.rows s.names i [] K.names_fit.0 h

  pub node_is : (i : ℕ) → i < s.nodes → node_at (state_of s) i ≡ entry_of (row s.rows i).node
  node_is i h = column_at (λ (r : Row). entry_of r.node) s.rows s.nodes i _ K.nodes_fit.0 h

  pub class_is : (i : ℕ) → i < s.nodes → class_at (state_of s) i ≡ class s.rows i
  class_is i h = column_at (λ (r : Row). r.node.class) s.rows s.nodes i 0 K.nodes_fit.0 h

  -- a row has one more than the choice
  pub choice_is : s.priced ≡ true → (i : ℕ) → i < s.nodes → choice (state_of s) i ≡ (row s.rows i).node.choice - 1
  choice_is e i h =
      ap (λ (v : Bool). get_or (cond v (map (λ (r : Row). r.node.choice - 1) (take s.nodes s.rows)) []) i 0) e
      ∙ column_at (λ (r : Row). r.node.choice - 1) s.rows s.nodes i 0 K.nodes_fit.0 h

  pub shapes_long : length (table_of (state_of s)) ≡ s.nodes
  shapes_long = table_length (state_of s) ∙ nodes_long

  pub shape_is : (i : ℕ) → i < s.nodes → shape_at (table_of (state_of s)) i ≡ shape_of (name_of s.rows) (row s.rows i).node
  shape_is i h =
      let x = (row s.rows i).node in
      shape_named (state_of s) i (omega (arith, nodes_long))
      ∙ ap (shape (state_of s).names) (node_is i h)
      ∙ entry_shape (state_of s).names (name_of s.rows) x.symbol x.parts x.left x.right (name_is x.symbol (K.known i h))

  pub table_is : table_of (state_of s) ≡ table (name_of s.rows) s.rows s.nodes
  table_is =
      let nm = name_of s.rows in
      ext_get_or (atom []) (table_of (state_of s)) (table nm s.rows s.nodes) (shapes_long ∙ sym (table_long nm s.rows s.nodes K.nodes_fit.0))
      (λ i l.
      let h : i < s.nodes = omega (arith, shapes_long) in
      shape_is i h ∙ sym (table_at nm s.rows s.nodes i K.nodes_fit.0 h))

  -- by names too the classes are those of equality
  pub closed_state : Closed (table_of (state_of s)) (class s.rows) (state_of s).equated
  closed_state = subst (λ (T : Table). Closed T (class s.rows) (pairs_in s.rows s.equations)) (sym table_is) (closed s K)
