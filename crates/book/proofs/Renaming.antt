-- A closed table over symbols is one over their names, since no two symbols have the same name.
use Rattle.std.proofs.Common.{◌≡◌, ℕ, zero, suc, ◌<◌, [], ◌∷◌, length, sym, refl, ap, ◌∙◌, subst, ap₂, subst₂, not-suc-le-zero, arith}
use mathlib.Core.List.Memᴰ
use Rattle.theory.specs.Names.{Name}
use Rattle.theory.specs.Builds.{Build, alone, one, two}
use Rattle.theory.specs.Equality.{Equal, given as stated, same, turned, joined, in_one, in_two}
use Rattle.theory.specs.Tables.{Shape, atom, unary, binary, Table, Closed, EachPart, map_parts, build_over, build_at, equations}
use Rattle.theory.proofs.Tables.{build_step}
use Rattle.book.specs.Rows.{row, class, shape, shaped, shape_of, bare, table, pairs_in, name_of}
use Rattle.book.specs.Layout.{Contents}
use Rattle.book.specs.Invariant.{Sound}
use Rattle.book.proofs.Tables.{table_long, table_at, lower, node_lower}
use Rattle.book.proofs.Signs.{of_agree, to_agree}
use Rattle.book.proofs.Pairs.{pairs_of}

-- a symbol's name for its number
abbrev spell : (ℕ → Name) → Name → Name
spell nm [] = []
spell nm (s ∷ ss) = nm s

abbrev rename : (ℕ → Name) → Build → Build
rename nm (alone s) = alone (spell nm s)
rename nm (one s u) = one (spell nm s) (rename nm u)
rename nm (two s u v) = two (spell nm s) (rename nm u) (rename nm v)

module _ (s : Contents) (K : Sound s) where
  nm : ℕ → Name
  nm = name_of s.rows

  t₀ : Table
  t₀ = table bare s.rows s.nodes

  t₁ : Table
  t₁ = table nm s.rows s.nodes

  -- the builds of the two tables
  renamed : (f i : ℕ) → i < f → i < s.nodes → build_at t₁ i ≡ rename nm (build_at t₀ i)
  unfolding t₀ t₁
  renamed zero i l h = absurd (not-suc-le-zero l)
  renamed (suc f) i l h =
      let z₀ = table_long bare s.rows s.nodes K.nodes_fit.0 in
      let z₁ = table_long nm s.rows s.nodes K.nodes_fit.0 in
      let x = (row s.rows i).node in
      build_step t₁ i (omega arith) (lower nm s.rows s.nodes K.nodes_fit.0 K.tidy i (omega arith))
      ∙ ap (build_over (build_at t₁)) (table_at nm s.rows s.nodes i K.nodes_fit.0 h)
      ∙ go x.symbol x.parts x.left x.right (node_lower bare i x (K.tidy i h)) (λ p m. renamed f p (omega arith) (omega arith))
      ∙ ap (rename nm)
      (sym (build_step t₀ i (omega arith) (lower bare s.rows s.nodes K.nodes_fit.0 K.tidy i (omega arith))
      ∙ ap (build_over (build_at t₀)) (table_at bare s.rows s.nodes i K.nodes_fit.0 h)))
    where
      go : (a p l r : ℕ) → EachPart (λ q. q < i) (shaped bare a p l r) → ((p : ℕ) → p < i → build_at t₁ p ≡ rename nm (build_at t₀ p))
          → build_over (build_at t₁) (shaped nm a p l r) ≡ rename nm (build_over (build_at t₀) (shaped bare a p l r))
      go a zero l r e ih = refl
      go a (suc zero) l r e ih = ap (one (nm a)) (ih l e)
      go a (suc (suc k)) l r e ih = ap₂ (two (nm a)) (ih l e.0) (ih r e.1)

  build_renamed : (i : ℕ) → i < s.nodes → build_at t₁ i ≡ rename nm (build_at t₀ i)
  build_renamed i h = renamed (suc i) i (omega arith) h

  eq_renamed : {u v : Build} → Equal (equations t₀ (pairs_in s.rows s.equations)) u v → Equal (equations t₁ (pairs_in s.rows s.equations)) (rename nm u) (rename nm v)
  eq_renamed {u} {v} (stated m) =
      let g = Memᴰ.of_map (λ (e : ℕ × ℕ). (build_at t₀ e.0, build_at t₀ e.1)) (pairs_in s.rows s.equations) m in
      let f = pairs_of s.rows s.equations g.0 K.equations_fit.0 g.1 in
      let o = K.obeys f.0 f.1 in
      let p : g.0.0 < s.nodes = subst (λ (e : ℕ × ℕ). e.0 < s.nodes) (sym f.2) o.0 in
      let q : g.0.1 < s.nodes = subst (λ (e : ℕ × ℕ). e.1 < s.nodes) (sym f.2) o.1 in
      let b : build_at t₁ g.0.0 ≡ rename nm u = build_renamed g.0.0 p ∙ ap (λ (x : Build × Build). rename nm x.0) g.2 in
      let c : build_at t₁ g.0.1 ≡ rename nm v = build_renamed g.0.1 q ∙ ap (λ (x : Build × Build). rename nm x.1) g.2 in
      subst₂ (λ (x y : Build). Equal (equations t₁ (pairs_in s.rows s.equations)) x y) b c
      (stated (Memᴰ.map (λ (e : ℕ × ℕ). (build_at t₁ e.0, build_at t₁ e.1)) g.1))
  eq_renamed same = same
  eq_renamed (turned q) = turned (eq_renamed q)
  eq_renamed (joined q r) = joined (eq_renamed q) (eq_renamed r)
  eq_renamed (in_one q) = in_one (eq_renamed q)
  eq_renamed (in_two q r) = in_two (eq_renamed q) (eq_renamed r)

  -- nodes of one shape by name are of one shape by symbol
  same_bare : (cl : ℕ → ℕ) (i j : ℕ) → i < s.nodes → j < s.nodes → map_parts cl (shape_of nm (row s.rows i).node) ≡ map_parts cl (shape_of nm (row s.rows j).node)
      → map_parts cl (shape s.rows i) ≡ map_parts cl (shape s.rows j)
  unfolding nm
  same_bare cl i j h l e =
      let x = (row s.rows i).node in
      let y = (row s.rows j).node in
      let g = to_agree cl nm i j x y (K.tidy i h) (K.tidy j l) e in
      of_agree cl x y (K.named x.symbol y.symbol (K.known i h) (K.known j l) g.0) g.1 g.2 g.3

  id_map : (x : Shape) → map_parts (λ p. p) x ≡ x
  id_map (atom a) = refl
  id_map (unary a p) = refl
  id_map (binary a p q) = refl

  pub closed : Closed (table (name_of s.rows) s.rows s.nodes) (class s.rows) (pairs_in s.rows s.equations)
  unfolding nm t₀ t₁
  closed =
      let fit = K.nodes_fit.0 in
      let z = table_long nm s.rows s.nodes fit in
      let at = λ (i : ℕ) (h : i < s.nodes). table_at nm s.rows s.nodes i fit h in
      record {
        lower = lower nm s.rows s.nodes fit K.tidy;
        least = λ i h. (K.based i (omega arith)).0;
        fixed = λ i h. (K.based i (omega arith)).1;
        congruent = λ i j h l e.
            let h' : i < s.nodes = omega arith in
            let l' : j < s.nodes = omega arith in
            K.level i j h' l'
            (same_bare (class s.rows) i j h' l' (sym (ap (map_parts (class s.rows)) (at i h')) ∙ e ∙ ap (map_parts (class s.rows)) (at j l')));
        joined = λ i j m.
            let f = pairs_of s.rows s.equations (i, j) K.equations_fit.0 m in
            subst (λ (e : ℕ × ℕ). (e.0 < length t₁) × (e.1 < length t₁) × (class s.rows e.0 ≡ class s.rows e.1)) (sym f.2)
            (omega (arith, (K.obeys f.0 f.1).0), omega (arith, (K.obeys f.0 f.1).1), (K.obeys f.0 f.1).2);
        sound = λ i j h l e.
            let h' : i < s.nodes = omega arith in
            let l' : j < s.nodes = omega arith in
            subst₂ (λ (x y : Build). Equal (equations t₁ (pairs_in s.rows s.equations)) x y) (sym (build_renamed i h')) (sym (build_renamed j l'))
            (eq_renamed (K.follows i j h' l' e));
        distinct = λ i j h l e.
            let h' : i < s.nodes = omega arith in
            let l' : j < s.nodes = omega arith in
            K.distinct i j h' l'
            (sym (id_map (shape s.rows i))
            ∙ same_bare (λ p. p) i j h' l' (ap (map_parts (λ p. p)) (sym (at i h') ∙ e ∙ at j l'))
            ∙ id_map (shape s.rows j));
      }
