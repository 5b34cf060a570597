-- A book stays a book when an equation is accepted.
use Rattle.std.proofs.Common.{◌≡◌, ℕ, ◌+◌, ◌<◌, ◌≤◌, Bool, false, ◌≢◌, ◌⊎◌, List, length, sym, refl, ap, ◌∙◌, subst, subst₂, inl, inr, true≢false, arith, length-set}
use mathlib.Core.List.{Memᴰ}
use native.Mathlib.Decide.{ℕ_discrete}
use Rattle.std.proofs.lemmas.List.{get_or-set_same, get_or-set_other}
use Rattle.theory.specs.Equality.{Equal}
use Rattle.theory.specs.Tables.{Table, build_at, equations}
use Rattle.theory.specs.Steps.{Partway}
use Rattle.book.specs.declared.row.Row.{Row}
use Rattle.book.specs.declared.row.Node.{Node}
use Rattle.book.specs.declared.row.Equation.{Equation}
use Rattle.book.specs.Rows.{absent, row, class, shape, shape_of, bare, table, pairs_in, with_equation, with_class, with_choice, stored, Unchosen}
use Rattle.book.specs.Closing.{Accepted}
use Rattle.book.specs.Layout.{Contents, room}
use Rattle.book.specs.Invariant.{Sound, Obeys, Follows, Unpriced}
use Rattle.book.specs.Changes.{Reset}
use Rattle.book.proofs.Same.{spelt_same, named_same}
use Rattle.book.proofs.Cores.{core, set_field, stored_core, core_tidy, core_based, core_level, core_table, core_class}
use Rattle.book.proofs.Sweeps.{tidy_still}
use Rattle.book.proofs.Merging.{three}
use Rattle.book.proofs.Tables.{same_table, table_long}
use Rattle.book.proofs.Pairs.{pair, pairs_has, pairs_of, more_follows, partway_of}

pub either : (i n : ℕ) → (i < n) ⊎ (n ≤ i)
either i n = elim (three i n) [ inl e ↦ inr (omega arith) | inr o ↦ elim o [ inl e ↦ inl e | inr e ↦ inr (omega arith) ] ]

pub unchosen_core : (xs ys : List Row) (n : ℕ) → Unchosen xs ys n → (i : ℕ) → core (row ys i) ≡ core (row xs i)
unchosen_core xs ys n U i = elim (either i n) [ inl h ↦ ap core (U.within i h) | inr h ↦ ap core (U.past i h) ]

-- an equation makes no choice
pub accepted_unpriced : (xs ys : List Row) (n k a b : ℕ) (v : Bool) → Accepted (stored xs k a b) ys n a b → Unpriced xs n v → Unpriced ys n v
accepted_unpriced xs ys n k a b v A U q i h =
    ap (λ (r : Row). r.node.choice) (A.only.within i h)
    ∙ set_field (λ (r : Row). r.node.choice) xs k (with_equation (row xs k) a b) refl i
    ∙ U q i h

-- what is stored in a row but for its class and its choice
abbrev still : Row → Row
still r = with_choice (with_class r 0) 0

pub reset_of : (xs ys zs : List Row) (n k a b : ℕ) → Accepted (stored xs k a b) ys n a b → Unchosen ys zs n → Reset n (stored xs k a b) zs
reset_of xs ys zs n k a b A U =
    record {
      long = U.long ∙ A.only.long;
      within = λ i h.
          let e : row zs i ≡ with_choice (with_class (row (stored xs k a b) i) (class ys i)) 0 = U.within i h ∙ ap (λ (r : Row). with_choice r 0) (A.only.within i h) in
          e ∙ ap (λ (c : ℕ). with_choice (with_class (row (stored xs k a b) i) c) 0) (sym (ap (λ (r : Row). r.node.class) e));
      past = λ i h. U.past i h ∙ A.only.past i h;
    }

module _ (s : Contents) (K : Sound s) (a b : ℕ) (ys zs : List Row) (at_a : a < s.nodes) (at_b : b < s.nodes) (space : s.equations < room s)
    (A : Accepted (stored s.rows s.equations a b) ys s.nodes a b) (U : Unchosen ys zs s.nodes) where
  reset : Reset s.nodes (stored s.rows s.equations a b) zs
  reset = reset_of s.rows ys zs s.nodes s.equations a b A U

  long : length zs ≡ length s.rows
  long = reset.long ∙ length-set s.rows s.equations (with_equation (row s.rows s.equations) a b)

  -- what stays in each row
  same_still : (i : ℕ) → still (row zs i) ≡ still (row (stored s.rows s.equations a b) i)
  same_still i = elim (either i s.nodes) [ inl h ↦ ap still (reset.within i h) | inr h ↦ ap still (reset.past i h) ]

  same_node : (i : ℕ) → (still (row zs i)).node ≡ (still (row s.rows i)).node
  same_node i =
      ap (λ (r : Row). r.node) (same_still i)
      ∙ ap (λ (x : Node). record { symbol = x.symbol; parts = x.parts; left = x.left; right = x.right; class = 0; choice = 0 }) (stored_core s.rows s.equations a b i)

  same_shape : (i : ℕ) → shape zs i ≡ shape s.rows i
  same_shape i = ap (shape_of bare) (same_node i)

  same_table' : table bare zs s.nodes ≡ table bare s.rows s.nodes
  same_table' = same_table bare s.nodes s.rows zs K.nodes_fit.0 (omega (arith, K.nodes_fit.0, long)) (λ i h. same_shape i)

  same_class : class zs ≡ class ys
  same_class = core_class ys zs (unchosen_core ys zs s.nodes U)

  eq_other : (i : ℕ) → i ≢ s.equations → (row zs i).equation ≡ (row s.rows i).equation
  eq_other i ne =
      ap (λ (r : Row). r.equation) (same_still i)
      ∙ ap (λ (r : Row). r.equation) (get_or-set_other s.rows s.equations i (with_equation (row s.rows s.equations) a b) absent ne)

  eq_new : (row zs s.equations).equation ≡ record { left = a; right = b }
  eq_new =
      ap (λ (r : Row). r.equation) (same_still s.equations)
      ∙ ap (λ (r : Row). r.equation) (get_or-set_same s.rows s.equations (with_equation (row s.rows s.equations) a b) absent (omega arith))

  pair_old : (i : ℕ) → i < s.equations → pair zs i ≡ pair s.rows i
  pair_old i h = ap (λ (e : Equation). (e.left, e.right)) (eq_other i (omega arith))

  pair_new : pair zs s.equations ≡ (a, b)
  pair_new = ap (λ (e : Equation). (e.left, e.right)) eq_new

  fit' : s.equations + 1 ≤ length zs
  fit' = omega (arith, long)

  more : (e : ℕ × ℕ) → Memᴰ e (pairs_in s.rows s.equations) → Memᴰ e (pairs_in zs (s.equations + 1))
  more e m =
      let f = pairs_of s.rows s.equations e K.equations_fit.0 m in
      subst (λ (p : ℕ × ℕ). Memᴰ p (pairs_in zs (s.equations + 1))) (pair_old f.0 f.1 ∙ sym f.2)
      (pairs_has zs (s.equations + 1) f.0 fit' (omega (arith, f.1)))

  new : Memᴰ (a, b) (pairs_in zs (s.equations + 1))
  new = subst (λ (p : ℕ × ℕ). Memᴰ p (pairs_in zs (s.equations + 1))) pair_new (pairs_has zs (s.equations + 1) s.equations fit' (omega arith))

  -- to store an equation changes no node
  stored_table : table bare (stored s.rows s.equations a b) s.nodes ≡ table bare s.rows s.nodes
  stored_table =
      core_table s.rows (stored s.rows s.equations a b) s.nodes K.nodes_fit.0
      (omega (arith, K.nodes_fit.0, length-set s.rows s.equations (with_equation (row s.rows s.equations) a b))) (stored_core s.rows s.equations a b)

  stored_class : class (stored s.rows s.equations a b) ≡ class s.rows
  stored_class = core_class s.rows (stored s.rows s.equations a b) (stored_core s.rows s.equations a b)

  after : Partway (table bare s.rows s.nodes) (class ys) (pairs_in zs (s.equations + 1))
  after =
      let ps = pairs_in zs (s.equations + 1) in
      subst (λ (t : Table). Partway t (class ys) ps) stored_table
      (A.sound ps new
      (subst₂ (λ (t : Table) (f : ℕ → ℕ). Partway t f ps) (sym stored_table) (sym stored_class)
      (partway_of s.rows s.nodes K.nodes_fit.0 K.tidy K.based ps
      (λ i j h l e. more_follows (table bare s.rows s.nodes) (pairs_in s.rows s.equations) ps more (K.follows i j h l e)))))

  follows : Follows zs s.nodes (s.equations + 1)
  follows =
      let z = table_long bare s.rows s.nodes K.nodes_fit.0 in
      subst₂ (λ (T : Table) (f : ℕ → ℕ). (i j : ℕ) → i < s.nodes → j < s.nodes → f i ≡ f j → Equal (equations T (pairs_in zs (s.equations + 1))) (build_at T i) (build_at T j))
      (sym same_table') (sym same_class) (λ i j h l e. after.sound i j (omega arith) (omega arith) e)

  abbrev Side : ℕ × ℕ → Type 0
  Side p = (p.0 < s.nodes) × (p.1 < s.nodes) × (class zs p.0 ≡ class zs p.1)

  obeys : Obeys zs s.nodes (s.equations + 1)
  obeys i h = go (ℕ_discrete i s.equations)
    where
      go : Dec (i ≡ s.equations) → Side (pair zs i)
      go (yes e) =
          subst Side (sym (ap (pair zs) e ∙ pair_new))
          (at_a, at_b, ap (λ (f : ℕ → ℕ). f a) same_class ∙ A.joins ∙ sym (ap (λ (f : ℕ → ℕ). f b) same_class))
      go (no e) =
          let l : i < s.equations = omega arith in
          let o = K.obeys i l in
          subst Side (sym (pair_old i l)) (
            o.0,
            o.1,
            ap (λ (f : ℕ → ℕ). f (row s.rows i).equation.left) same_class
                ∙ A.coarser (row s.rows i).equation.left (row s.rows i).equation.right o.0 o.1
                (ap (λ (f : ℕ → ℕ). f (row s.rows i).equation.left) stored_class ∙ o.2 ∙ sym (ap (λ (f : ℕ → ℕ). f (row s.rows i).equation.right) stored_class))
                ∙ sym (ap (λ (f : ℕ → ℕ). f (row s.rows i).equation.right) same_class),
          )

  whole_node : (i : ℕ) → s.nodes ≤ i → (row zs i).node ≡ (row s.rows i).node
  whole_node i h =
      ap (λ (r : Row). r.node) (reset.past i h)
      ∙ set_field (λ (r : Row). r.node) s.rows s.equations (with_equation (row s.rows s.equations) a b) refl i

  same_name : (i : ℕ) → (row zs i).name ≡ (row s.rows i).name
  same_name i =
      ap (λ (r : Row). r.name) (same_still i)
      ∙ set_field (λ (r : Row). r.name) s.rows s.equations (with_equation (row s.rows s.equations) a b) refl i

  pub sound_equated : Sound (record { rows = zs; names = s.names; nodes = s.nodes; equations = s.equations + 1; priced = false })
  sound_equated =
      record {
        names_fit = (omega (arith, K.names_fit.0, long), K.names_fit.1);
        nodes_fit = (omega (arith, K.nodes_fit.0, long), K.nodes_fit.1);
        equations_fit = (fit', omega arith);
        tidy = core_tidy ys zs s.nodes (unchosen_core ys zs s.nodes U)
            (tidy_still s.nodes (stored s.rows s.equations a b) ys A.only (core_tidy s.rows (stored s.rows s.equations a b) s.nodes (stored_core s.rows s.equations a b) K.tidy));
        spelt = spelt_same s K zs same_name;
        named = named_same s K zs same_name;
        known = λ i h. subst (λ (x : Node). x.symbol < s.names) (sym (same_node i)) (K.known i h);
        distinct = λ i j h l e. K.distinct i j h l (sym (same_shape i) ∙ e ∙ same_shape j);
        based = core_based ys zs s.nodes (unchosen_core ys zs s.nodes U) A.based;
        level = core_level ys zs s.nodes (unchosen_core ys zs s.nodes U) A.level;
        obeys = obeys;
        follows = follows;
        blank = λ i h l.
            let B = K.blank i (omega (arith, long)) l in
            (λ q. same_name i ∙ B.0 q, λ q. whole_node i q ∙ B.1 q, λ q. eq_other i (omega arith) ∙ B.2 (omega arith));
        unpriced = λ e i h. ap (λ (r : Row). r.node.choice) (U.within i h);
        priced = λ e i h. absurd (true≢false (sym e));
      }
