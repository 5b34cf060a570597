-- What depends on nodes alone, and not on names, choices or equations, stays when those are written.
use Rattle.std.proofs.Common.{◌≡◌, ℕ, ◌<◌, ◌≤◌, ◌⊎◌, List, length, set, sym, refl, ap, ◌∙◌, subst, inl, inr, arith}
use mathlib.Core.Path.{fun_ext}
use native.Mathlib.Decide.{ℕ_discrete}
use Rattle.std.proofs.lemmas.List.{get_or-set_same, get_or-set_other, set_past}
use Rattle.theory.specs.Tables.{map_parts}
use Rattle.book.specs.declared.row.Row.{Row}
use Rattle.book.specs.declared.row.Node.{Node}
use Rattle.book.specs.Rows.{absent, row, class, shape_of, table, bare, TidyNode, Tidy, Based, with_equation, stored}
use Rattle.book.specs.Closing.{Level}
use Rattle.book.proofs.Tables.{same_table}
use Rattle.book.proofs.Merging.{three}

-- a row's node but for its choice
abbrev pub core : Row → Node
core r =
    record {
      symbol = r.node.symbol;
      parts = r.node.parts;
      left = r.node.left;
      right = r.node.right;
      class = r.node.class;
      choice = 0;
    }

-- what a stored row has as the row before had it
pub set_field : {X : Type 0} (f : Row → X) (xs : List Row) (k : ℕ) (r : Row) → f r ≡ f (row xs k) → (i : ℕ) → f (row (set xs k r) i) ≡ f (row xs i)
set_field {X} f xs k r e i = go (ℕ_discrete i k) (three k (length xs))
  where
    past : length xs ≤ k → f (row (set xs k r) i) ≡ f (row xs i)
    past l = ap (λ (zs : List Row). f (row zs i)) (set_past xs k r l)

    go : Dec (i ≡ k) → (k ≡ length xs) ⊎ ((k < length xs) ⊎ (length xs < k)) → f (row (set xs k r) i) ≡ f (row xs i)
    go (no q) o = ap f (get_or-set_other xs k i r absent q)
    go (yes q) (inl l) = past (omega arith)
    go (yes q) (inr (inl l)) = ap (λ (n : ℕ). f (row (set xs k r) n)) q ∙ ap f (get_or-set_same xs k r absent l) ∙ e ∙ sym (ap (λ (n : ℕ). f (row xs n)) q)
    go (yes q) (inr (inr l)) = past (omega arith)

pub stored_core : (xs : List Row) (k a b : ℕ) (i : ℕ) → core (row (stored xs k a b) i) ≡ core (row xs i)
stored_core xs k a b = set_field core xs k (with_equation (row xs k) a b) refl

module _ (xs ys : List Row) where
  pub core_class : ((i : ℕ) → core (row ys i) ≡ core (row xs i)) → class ys ≡ class xs
  core_class e = fun_ext (λ i. ap (λ (x : Node). x.class) (e i))

  module _ (n : ℕ) where
    pub core_table : n ≤ length xs → n ≤ length ys → ((i : ℕ) → core (row ys i) ≡ core (row xs i)) → table bare ys n ≡ table bare xs n
    core_table h l e = same_table bare n xs ys h l (λ i k. ap (λ (x : Node). shape_of bare x) (e i))

    pub core_tidy : ((i : ℕ) → core (row ys i) ≡ core (row xs i)) → Tidy xs n → Tidy ys n
    core_tidy e T = subst (λ (f : ℕ → Node). (i : ℕ) → i < n → TidyNode i (f i)) (sym (fun_ext e)) T

    pub core_based : ((i : ℕ) → core (row ys i) ≡ core (row xs i)) → Based xs n → Based ys n
    core_based e B = subst (λ (f : ℕ → ℕ). (i : ℕ) → i < n → (f i ≤ i) × (f (f i) ≡ f i)) (sym (core_class e)) B

    pub core_level : ((i : ℕ) → core (row ys i) ≡ core (row xs i)) → Level xs n → Level ys n
    core_level e L =
        subst (λ (f : ℕ → Node). (i j : ℕ) → i < n → j < n
        → map_parts (λ k. (f k).class) (shape_of bare (f i)) ≡ map_parts (λ k. (f k).class) (shape_of bare (f j)) → (f i).class ≡ (f j).class)
        (sym (fun_ext e)) L
