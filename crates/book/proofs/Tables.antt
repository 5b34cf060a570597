-- What the rows say of a node, read off the table.
use Rattle.std.proofs.Common.{◌≡◌, ℕ, zero, suc, ◌<◌, ◌≤◌, List, [], length, sym, refl, ap, subst, ap₂, arith}
use Rattle.theory.specs.Names.{Name}
use Rattle.theory.specs.Tables.{Shape, atom, unary, binary, EachPart, shape_at, map_parts}
use Rattle.book.specs.declared.row.Row.{Row}
use Rattle.book.specs.declared.row.Node.{Node}
use Rattle.book.specs.Rows.{row, shaped, shape_of, table, TidyNode, Tidy}
use Rattle.book.specs.Closing.{Reclassed}
use Rattle.book.proofs.Columns.{column_long, column_at, same_column}

module _ (nm : ℕ → Name) where
  pub table_long : (rows : List Row) (n : ℕ) → n ≤ length rows → length (table nm rows n) ≡ n
  table_long rows n h = column_long (λ (r : Row). shape_of nm r.node) rows n h

  pub table_at : (rows : List Row) (n i : ℕ) → n ≤ length rows → i < n → shape_at (table nm rows n) i ≡ shape_of nm (row rows i).node
  table_at rows n i h l = column_at (λ (r : Row). shape_of nm r.node) rows n i (atom []) h l

  low : (i s p l r : ℕ) → (0 < p → l < i) → (1 < p → r < i) → EachPart (λ q. q < i) (shaped nm s p l r)
  low i s zero l r f g = tt
  low i s (suc zero) l r f g = f (omega arith)
  low i s (suc (suc k)) l r f g = (f (omega arith), g (omega arith))

  pub node_lower : (i : ℕ) (x : Node) → TidyNode i x → EachPart (λ q. q < i) (shape_of nm x)
  node_lower i x t = low i x.symbol x.parts x.left x.right t.1 t.2

  pub lower : (rows : List Row) (n : ℕ) → n ≤ length rows → Tidy rows n → (i : ℕ) → i < length (table nm rows n) → EachPart (λ q. q < i) (shape_at (table nm rows n) i)
  lower rows n h t i l =
      let l' : i < n = omega (arith, table_long rows n h) in
      subst (EachPart (λ q. q < i)) (sym (table_at rows n i h l')) (node_lower i (row rows i).node (t i l'))

  pub same_table : (n : ℕ) (xs ys : List Row) → n ≤ length xs → n ≤ length ys
      → ((i : ℕ) → i < n → shape_of nm (row ys i).node ≡ shape_of nm (row xs i).node) → table nm ys n ≡ table nm xs n
  same_table n xs ys h k f = same_column (λ (r : Row). shape_of nm r.node) xs ys n h k f

  pub reclassed_table : (n : ℕ) (xs ys : List Row) → n ≤ length xs → Reclassed n xs ys → table nm ys n ≡ table nm xs n
  reclassed_table n xs ys h R = same_table n xs ys h (omega (arith, R.long)) (λ i l. ap (λ (r : Row). shape_of nm r.node) (R.within i l))

pub each_all : (P : ℕ → Type 0) → ((p : ℕ) → P p) → (x : Shape) → EachPart P x
each_all P f (atom s) = tt
each_all P f (unary s p) = f p
each_all P f (binary s p q) = (f p, f q)

pub each_of : (P : ℕ → Type 0) (f : ℕ → ℕ) (x : Shape) → EachPart P (map_parts f x) → EachPart (λ p. P (f p)) x
each_of P f (atom s) e = tt
each_of P f (unary s p) e = e
each_of P f (binary s p q) e = e

pub of_each : (P : ℕ → Type 0) (f : ℕ → ℕ) (x : Shape) → EachPart (λ p. P (f p)) x → EachPart P (map_parts f x)
of_each P f (atom s) e = tt
of_each P f (unary s p) e = e
of_each P f (binary s p q) e = e

pub part_map_same : (f g : ℕ → ℕ) (x : Shape) → EachPart (λ p. f p ≡ g p) x → map_parts f x ≡ map_parts g x
part_map_same f g (atom s) e = refl
part_map_same f g (unary s p) e = ap (unary s) e
part_map_same f g (binary s p q) e = ap₂ (binary s) e.0 e.1
