-- The state that rows of nodes hold, read off the rows: nodes, classes, parts and productions.
use Rattle.std.proofs.Common.{eqb, ◌≡◌, ℕ, zero, suc, ◌<◌, ◌≤◌, ◌⊎◌, List, length, sym, refl, ap, ◌∙◌, subst, inl, inr, arith}
use Rattle.std.proofs.lemmas.Bool.{ne_eqb, cond-false}
use lib.ListN.{length-map, get_or-map}
use Rattle.theory.specs.Books.{State, node_at, class as class_at}
use Rattle.theory.specs.Productions.{Part, made_by, production}
use Rattle.book.specs.declared.row.Row.{Row}
use Rattle.book.specs.declared.row.Node.{Node}
use Rattle.book.specs.Rows.{absent, row, class, Tidy, Based}
use Rattle.book.specs.Layout.{entry, entry_of}
use Rattle.listing.specs.Nodes.{state_in, part_at}

-- the parts that a row counts
abbrev pub Counted : Node → ℕ → Type 0
Counted x p = ((0 < x.parts) × (p ≡ x.left)) ⊎ ((1 < x.parts) × (p ≡ x.right))

part_counted : (x n l r p : ℕ) → Part p (entry x n l r) → ((0 < n) × (p ≡ l)) ⊎ ((1 < n) × (p ≡ r))
part_counted x zero l r p q = absurd q
part_counted x (suc zero) l r p q = inl (omega arith, q)
part_counted x (suc (suc n)) l r p (inl q) = inl (omega arith, q)
part_counted x (suc (suc n)) l r p (inr q) = inr (omega arith, q)

left_part : (x n l r : ℕ) → 0 < n → Part l (entry x n l r)
left_part x zero l r h = absurd (omega arith)
left_part x (suc zero) l r h = refl
left_part x (suc (suc n)) l r h = inl refl

right_part : (x n l r : ℕ) → 1 < n → Part r (entry x n l r)
right_part x zero l r h = absurd (omega arith)
right_part x (suc zero) l r h = absurd (omega arith)
right_part x (suc (suc n)) l r h = inr refl

-- a missing part is 0, and so is its class
made_entry : (s : State) (k x n l r : ℕ) → n ≤ 2 → class_at s 0 ≡ 0 → (n < 1 → l ≡ 0) → (n < 2 → r ≡ 0)
    → made_by s k (entry x n l r) ≡ record { of = k; symbol = x; parts = n; left = class_at s l; right = class_at s r }
made_entry s k x zero l r h z a b =
    let e = ap (class_at s) (a (omega arith)) ∙ z in
    let f = ap (class_at s) (b (omega arith)) ∙ z in
    λ i. record { of = k; symbol = x; parts = 0; left = sym e i; right = sym f i }
made_entry s k x (suc zero) l r h z a b =
    let f = ap (class_at s) (b (omega arith)) ∙ z in
    λ i. record { of = k; symbol = x; parts = 1; left = class_at s l; right = sym f i }
made_entry s k x (suc (suc zero)) l r h z a b = refl
made_entry s k x (suc (suc (suc n))) l r h z a b = absurd (omega arith)

module _ (xs : List Row) where
  pub nodes_in : length (state_in xs).nodes ≡ length xs
  nodes_in = length-map xs (λ (r : Row). entry_of r.node)

  node_in : (j : ℕ) → node_at (state_in xs) j ≡ entry_of (row xs j).node
  node_in j = get_or-map (λ (r : Row). entry_of r.node) xs j absent

  pub class_in : (j : ℕ) → class_at (state_in xs) j ≡ class xs j
  class_in j = get_or-map (λ (r : Row). r.node.class) xs j absent

  pub counted : (j p : ℕ) → Part p (node_at (state_in xs) j) → Counted (row xs j).node p
  counted j p q =
      let x = (row xs j).node in
      part_counted x.symbol x.parts x.left x.right p (subst (Part p) (node_in j) q)

  left_in : (j : ℕ) → 0 < (row xs j).node.parts → Part (row xs j).node.left (node_at (state_in xs) j)
  left_in j h =
      let x = (row xs j).node in
      subst (Part x.left) (sym (node_in j)) (left_part x.symbol x.parts x.left x.right h)

  right_in : (j : ℕ) → 1 < (row xs j).node.parts → Part (row xs j).node.right (node_at (state_in xs) j)
  right_in j h =
      let x = (row xs j).node in
      subst (Part x.right) (sym (node_in j)) (right_part x.symbol x.parts x.left x.right h)

  -- each part that a row counts is one
  pub part_in : (j i : ℕ) → i < (row xs j).node.parts → (row xs j).node.parts ≤ 2 → Part (part_at (row xs j).node i) (node_at (state_in xs) j)
  part_in j zero h k = left_in j h
  part_in j (suc i) h k =
      let x = (row xs j).node in
      let e : part_at x (suc i) ≡ x.right = cond-false (eqb (suc i) 0) _ _ (ne_eqb _ 0 (λ e. absurd (omega arith))) in
      subst (λ (p : ℕ). Part p (node_at (state_in xs) j)) (sym e) (right_in j (omega arith))

  pub production_in : Tidy xs (length xs) → Based xs (length xs) → (j : ℕ) → j < length xs
      → production (state_in xs) j
      ≡ record {
        of = class xs j;
        symbol = (row xs j).node.symbol;
        parts = (row xs j).node.parts;
        left = class xs (row xs j).node.left;
        right = class xs (row xs j).node.right;
      }
  production_in T B j h =
      let x = (row xs j).node in
      let t = T j h in
      let z : class_at (state_in xs) 0 ≡ 0 = class_in 0 ∙ omega (arith, (B 0 (omega arith)).0) in
      ap (made_by (state_in xs) (class_at (state_in xs) j)) (node_in j)
      ∙ made_entry (state_in xs) (class_at (state_in xs) j) x.symbol x.parts x.left x.right t.0 z t.3 t.4
      ∙ (λ i. record { of = class_in j i; symbol = x.symbol; parts = x.parts; left = class_in x.left i; right = class_in x.right i })
