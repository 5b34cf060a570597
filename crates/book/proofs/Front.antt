-- The rows of the nodes alone keep what the rows of a book keep of its nodes.
use Rattle.std.proofs.Common.{◌≡◌, ℕ, ◌<◌, ◌≤◌, List, length, take, sym, ap, ◌∙◌, subst, arith}
use Rattle.std.proofs.lemmas.List.{length-take-le, get_or-take}
use Rattle.theory.specs.Tables.{Table, NodePairs, map_parts}
use Rattle.theory.specs.Steps.{Partway}
use Rattle.theory.proofs.Tables.{each_map}
use Rattle.book.specs.declared.row.Row.{Row}
use Rattle.book.specs.Rows.{row, class, absent, shape, shape_of, sign, bare, TidyNode, Tidy, Based}
use Rattle.book.specs.Closing.{Level}
use Rattle.book.specs.Layout.{Contents}
use Rattle.book.specs.Invariant.{Sound}
use Rattle.book.proofs.Tables.{node_lower, part_map_same}

-- rows that are the same below n
module _ (us ws : List Row) (n : ℕ) (same : (i : ℕ) → i < n → row ws i ≡ row us i) where
  pub class_below : (i : ℕ) → i < n → class ws i ≡ class us i
  class_below i h = ap (λ (r : Row). r.node.class) (same i h)

  pub tidy_below : Tidy us n → Tidy ws n
  tidy_below T i h = subst (λ (r : Row). TidyNode i r.node) (sym (same i h)) (T i h)

  pub based_below : Based us n → Based ws n
  based_below B i h =
      let b = B i h in
      let c = class_below i h in
      (omega (arith, b.0), ap (class ws) c ∙ class_below (class us i) (omega (arith, b.0)) ∙ b.1 ∙ sym c)

  -- signs look only at classes below
  pub sign_below : Tidy us n → (i : ℕ) → i < n → sign ws i ≡ sign us i
  sign_below T i h =
      ap (λ (r : Row). map_parts (class ws) (shape_of bare r.node)) (same i h)
      ∙ part_map_same (class ws) (class us) (shape us i)
      (each_map (λ p. p < i) (λ p. class ws p ≡ class us p) (λ p m. class_below p (omega arith)) (shape us i) (node_lower bare i (row us i).node (T i h)))

  pub level_below : Tidy us n → Level us n → Level ws n
  level_below T L i j h l e =
      class_below i h ∙ L i j h l (sym (sign_below T i h) ∙ e ∙ sign_below T j l) ∙ sym (class_below j l)

-- classes that are the same below the table's length
pub partway_same : (t : Table) (f g : ℕ → ℕ) (ps : NodePairs) → ((i : ℕ) → i < length t → g i ≡ f i) → Partway t f ps → Partway t g ps
partway_same t f g ps e P =
    record {
      lower = P.lower;
      least = λ i h. omega (arith, e i h, P.least i h);
      fixed = λ i h. ap g (e i h) ∙ e (f i) (omega (arith, P.least i h)) ∙ P.fixed i h ∙ sym (e i h);
      sound = λ i j h l q. P.sound i j h l (sym (e i h) ∙ q ∙ e j l);
    }

module _ (s : Contents) (K : Sound s) where
  pub front_length : length (take s.nodes s.rows) ≡ s.nodes
  front_length = length-take-le s.nodes s.rows K.nodes_fit.0

  pub front_row : (i : ℕ) → i < s.nodes → row (take s.nodes s.rows) i ≡ row s.rows i
  front_row i h = get_or-take s.nodes s.rows i absent h

  pub front_class : (i : ℕ) → i < s.nodes → class (take s.nodes s.rows) i ≡ class s.rows i
  front_class = class_below s.rows (take s.nodes s.rows) s.nodes front_row

  pub front_few : length (take s.nodes s.rows) ≤ 1024
  front_few =
      let z = front_length in
      omega (arith, K.nodes_fit.1)

  pub front_tidy : Tidy (take s.nodes s.rows) (length (take s.nodes s.rows))
  front_tidy = subst (Tidy (take s.nodes s.rows)) (sym front_length) (tidy_below s.rows (take s.nodes s.rows) s.nodes front_row K.tidy)

  pub front_based : Based (take s.nodes s.rows) (length (take s.nodes s.rows))
  front_based = subst (Based (take s.nodes s.rows)) (sym front_length) (based_below s.rows (take s.nodes s.rows) s.nodes front_row K.based)
