-- A book stays a book when a node is added.
use Rattle.std.proofs.Common.{◌≡◌, ℕ, ◌+◌, ◌<◌, ◌≤◌, false, ◌≢◌, ◌⊎◌, List, length, set, sym, ap, ◌∙◌, subst, subst₂, inl, inr, true≢false, arith, length-set}
use mathlib.Core.List.{Memᴰ}
use native.Mathlib.Decide.{ℕ_discrete}
use Rattle.std.proofs.lemmas.List.{get_or-set_same, get_or-set_other}
use Rattle.theory.specs.Builds.{Build}
use Rattle.theory.specs.Equality.{Equal, same}
use Rattle.theory.specs.Tables.{Table, NodePairs, build_at, equations, map_parts}
use Rattle.theory.specs.Steps.{Partway}
use Rattle.theory.proofs.Closing.{closing}
use Rattle.theory.proofs.Tables.{each_map}
use Rattle.book.specs.declared.row.Row.{Row}
use Rattle.book.specs.declared.row.Node.{Node}
use Rattle.book.specs.Rows.{absent, row, class, shape, shape_of, sign, bare, table, pairs_in, with_class, with_choice, TidyNode, Tidy, Based, Unchosen}
use Rattle.book.specs.Closing.{Level}
use Rattle.book.specs.Entering.{raw_of, with_node, placed, Put}
use Rattle.book.specs.Layout.{Contents, room}
use Rattle.book.specs.Invariant.{Sound, Distinct, Obeys, Follows}
use Rattle.book.proofs.Tables.{same_table, table_long, table_at, lower, node_lower, part_map_same}
use Rattle.book.proofs.Signs.{to_agree, bare_one}
use Rattle.book.proofs.Cores.{core, core_based, core_level, core_class}
use Rattle.book.proofs.Merging.{three}
use Rattle.book.proofs.Pairs.{pairs_of, same_pairs, partway_of, builds_agree, eq_agree}
use Rattle.book.proofs.Front.{sign_below}
use Rattle.book.proofs.Same.{spelt_same, named_same}
use Rattle.book.proofs.Accepting.{unchosen_core}

-- below n, or n
pub last : (i n : ℕ) → i < n + 1 → (i < n) ⊎ (i ≡ n)
last i n h = elim (three i n) [ inl e ↦ inr e | inr o ↦ elim o [ inl e ↦ inl e | inr e ↦ absurd (omega arith) ] ]

module _ (xs : List Row) (n : ℕ) (x : Node) (fit : n < length xs) where
  old : (i : ℕ) → i ≢ n → row (placed xs n x) i ≡ row xs i
  old i ne = get_or-set_other xs n i (with_node (row xs n) x) absent ne

  new : row (placed xs n x) n ≡ with_node (row xs n) x
  new = get_or-set_same xs n (with_node (row xs n) x) absent fit

  pub placed_tidy : Tidy xs n → TidyNode n x → Tidy (placed xs n x) (n + 1)
  placed_tidy T t i h = elim (last i n h) [
    | inl l ↦ subst (λ (r : Row). TidyNode i r.node) (sym (old i (omega arith))) (T i l)
    | inr e ↦ subst (λ (k : ℕ). TidyNode k (row (placed xs n x) k).node) (sym e) (subst (λ (r : Row). TidyNode n r.node) (sym new) t)
  ]

  pub placed_based : Based xs n → x.class ≡ n → Based (placed xs n x) (n + 1)
  placed_based B e i h = elim (last i n h) [
    | inl l ↦
        let b = B i l in
        let c : (p : ℕ) → p < n → class (placed xs n x) p ≡ class xs p = λ p q. ap (λ (r : Row). r.node.class) (old p (omega arith)) in
        (omega (arith, b.0, c i l), ap (class (placed xs n x)) (c i l) ∙ c (class xs i) (omega (arith, b.0)) ∙ b.1 ∙ sym (c i l))
    | inr q ↦
        let f : class (placed xs n x) i ≡ i = ap (class (placed xs n x)) q ∙ ap (λ (r : Row). r.node.class) new ∙ e ∙ sym q in
        (omega arith, ap (class (placed xs n x)) f)
  ]

  -- what `put` leaves
  module _ (ys : List Row) (P : Put xs ys n x) where
    vs_long : length (placed xs n x) ≡ length xs
    vs_long = length-set xs n (with_node (row xs n) x)

    pub put_long : length ys ≡ length xs
    put_long = elim P [
      | inl f ↦ ap length f.3 ∙ length-set (placed xs n x) n (with_class (row (placed xs n x) n) (class (placed xs n x) f.0)) ∙ vs_long
      | inr f ↦ ap length f.1 ∙ vs_long
    ]

    pub put_old : (i : ℕ) → i ≢ n → row ys i ≡ row xs i
    put_old i ne = elim P [
      | inl f ↦
          ap (λ (zs : List Row). row zs i) f.3
          ∙ get_or-set_other (placed xs n x) n i (with_class (row (placed xs n x) n) (class (placed xs n x) f.0)) absent ne
          ∙ old i ne
      | inr f ↦ ap (λ (zs : List Row). row zs i) f.1 ∙ old i ne
    ]

    -- the new row, but for its class
    pub put_new : row ys n ≡ with_class (with_node (row xs n) x) (class ys n)
    put_new = elim P [
      | inl f ↦
          let r = with_class (row (placed xs n x) n) (class (placed xs n x) f.0) in
          let e : row ys n ≡ r = ap (λ (zs : List Row). row zs n) f.3 ∙ get_or-set_same (placed xs n x) n r absent (omega (arith, vs_long)) in
          let g : row ys n ≡ with_class (with_node (row xs n) x) (class (placed xs n x) f.0) = e ∙ ap (λ (q : Row). with_class q (class (placed xs n x) f.0)) new in
          g ∙ ap (with_class (with_node (row xs n) x)) (sym (ap (λ (q : Row). q.node.class) g))
      | inr f ↦
          let g : row ys n ≡ with_node (row xs n) x = ap (λ (zs : List Row). row zs n) f.1 ∙ new in
          g ∙ ap (with_class (with_node (row xs n) x)) (sym (ap (λ (q : Row). q.node.class) g))
    ]

    put_shape : (i : ℕ) → shape ys i ≡ shape (placed xs n x) i
    put_shape i = go (ℕ_discrete i n)
      where
        go : Dec (i ≡ n) → shape ys i ≡ shape (placed xs n x) i
        go (yes e) =
            ap (shape ys) e
            ∙ ap (λ (r : Row). shape_of bare r.node) put_new
            ∙ sym (ap (λ (r : Row). shape_of bare r.node) new)
            ∙ sym (ap (shape (placed xs n x)) e)
        go (no e) = ap (λ (r : Row). shape_of bare r.node) (put_old i e ∙ sym (old i e))

    -- signs look only at classes below n
    sign_same : (us ws : List Row) (i : ℕ) → i < n + 1 → Tidy us (n + 1) → shape ws i ≡ shape us i → ((p : ℕ) → p < n → class ws p ≡ class us p) → sign ws i ≡ sign us i
    sign_same us ws i h T e f =
        ap (map_parts (class ws)) e
        ∙ part_map_same (class ws) (class us) (shape us i)
        (each_map (λ p. p < i) (λ p. class ws p ≡ class us p) (λ p m. f p (omega arith)) (shape us i) (node_lower bare i (row us i).node (T i h)))

    class_old : (p : ℕ) → p < n → class ys p ≡ class xs p
    class_old p h = ap (λ (r : Row). r.node.class) (put_old p (omega arith))

    class_placed : (p : ℕ) → p < n → class (placed xs n x) p ≡ class xs p
    class_placed p h = ap (λ (r : Row). r.node.class) (old p (omega arith))

    sign_put : Tidy (placed xs n x) (n + 1) → (i : ℕ) → i < n + 1 → sign ys i ≡ sign (placed xs n x) i
    sign_put T i h = sign_same (placed xs n x) ys i h T (put_shape i) (λ p l. class_old p l ∙ sym (class_placed p l))

module _ (s : Contents) (K : Sound s) (x : Node) (tx : TidyNode s.nodes x) (kx : x.symbol < s.names) (cx : x.class ≡ s.nodes) (ox : x.choice ≡ 0)
    (fresh : (i : ℕ) → i < s.nodes → raw_of (row s.rows i).node ≡ raw_of x → ⊥) (space : s.nodes < room s)
    (ys zs : List Row) (P : Put s.rows ys s.nodes x) (U : Unchosen ys zs (s.nodes + 1)) where
  fit : s.nodes < length s.rows
  fit = omega arith

  ws : List Row
  ws = placed s.rows s.nodes x

  tidy_ws : Tidy ws (s.nodes + 1)
  unfolding ws
  tidy_ws = placed_tidy s.rows s.nodes x fit K.tidy tx

  fit_ws : s.nodes + 1 ≤ length ws
  unfolding ws
  fit_ws = omega (arith, fit, length-set s.rows s.nodes (with_node (row s.rows s.nodes) x))

  class_ws : (p : ℕ) → p < s.nodes → class ws p ≡ class s.rows p
  unfolding ws
  class_ws p h = class_placed s.rows s.nodes x fit ys P p h

  class_new : class ws s.nodes ≡ s.nodes
  unfolding ws
  class_new = ap (λ (r : Row). r.node.class) (new s.rows s.nodes x fit) ∙ cx

  based_ws : Based ws (s.nodes + 1)
  unfolding ws
  based_ws = placed_based s.rows s.nodes x fit K.based cx

  t₀ : Table
  t₀ = table bare s.rows s.nodes

  t₁ : Table
  t₁ = table bare ws (s.nodes + 1)

  ps : NodePairs
  ps = pairs_in s.rows s.equations

  builds_old : (i : ℕ) → i < s.nodes → build_at t₀ i ≡ build_at t₁ i
  unfolding t₀ t₁ ws
  builds_old =
      let f = K.nodes_fit.0 in
      let z₀ = table_long bare s.rows s.nodes f in
      let z₁ = table_long bare ws (s.nodes + 1) fit_ws in
      builds_agree t₀ t₁ s.nodes (omega arith) (omega arith) (lower bare s.rows s.nodes f K.tidy) (lower bare ws (s.nodes + 1) fit_ws tidy_ws)
      (λ i h.
      table_at bare s.rows s.nodes i f h
      ∙ sym (ap (λ (r : Row). shape_of bare r.node) (old s.rows s.nodes x fit i (omega arith)))
      ∙ sym (table_at bare ws (s.nodes + 1) i fit_ws (omega arith)))

  side : (e : ℕ × ℕ) → Memᴰ e ps → (build_at t₀ e.0 ≡ build_at t₁ e.0) × (build_at t₀ e.1 ≡ build_at t₁ e.1)
  unfolding ps
  side e m =
      let f = pairs_of s.rows s.equations e K.equations_fit.0 m in
      let o = K.obeys f.0 f.1 in
      subst (λ (e : ℕ × ℕ). (build_at t₀ e.0 ≡ build_at t₁ e.0) × (build_at t₀ e.1 ≡ build_at t₁ e.1)) (sym f.2)
      (builds_old (row s.rows f.0).equation.left o.0, builds_old (row s.rows f.0).equation.right o.1)

  -- with the new node in a class of its own
  start : Partway t₁ (class ws) ps
  unfolding t₀ t₁ ps
  start = partway_of ws (s.nodes + 1) fit_ws tidy_ws based_ws ps sound
    where
      sound : (i j : ℕ) → i < s.nodes + 1 → j < s.nodes + 1 → class ws i ≡ class ws j → Equal (equations t₁ ps) (build_at t₁ i) (build_at t₁ j)
      sound i j h l e = elim (last i s.nodes h) [
        | inl p ↦ elim (last j s.nodes l) [
          | inl q ↦
              subst₂ (λ (u v : Build). Equal (equations t₁ ps) u v) (builds_old i p) (builds_old j q)
              (eq_agree t₀ t₁ ps side (K.follows i j p q (sym (class_ws i p) ∙ e ∙ class_ws j q)))
          | inr q ↦ absurd (omega (arith, class_ws i p, (K.based i p).0, ap (class ws) q, class_new))
        ]
        | inr p ↦ elim (last j s.nodes l) [
          | inl q ↦ absurd (omega (arith, class_ws j q, (K.based j q).0, ap (class ws) p, class_new))
          | inr q ↦ subst (λ (k : ℕ). Equal (equations t₁ ps) (build_at t₁ i) (build_at t₁ k)) (p ∙ sym q) same
        ]
      ]

  stays : (i : ℕ) → i ≢ s.nodes → class ys i ≡ class ws i
  unfolding ws
  stays i d = ap (λ (r : Row). r.node.class) (put_old s.rows s.nodes x fit ys P i d ∙ sym (old s.rows s.nodes x fit i d))

  -- with the new node in its class
  put_partway : Partway t₁ (class ys) ps
  unfolding t₁ ws
  put_partway = elim P [
    | inl f ↦
        let j = f.0 in
        let z = table_long bare ws (s.nodes + 1) fit_ws in
        let at = λ (i : ℕ) (h : i < s.nodes + 1). table_at bare ws (s.nodes + 1) i fit_ws h in
        let cj = class_ws j f.1 in
        let bj = (K.based j f.1).0 in
        let cn : class ys s.nodes ≡ class ws j
        = ap (λ (us : List Row). class us s.nodes) f.3
        ∙ ap (λ (r : Row). r.node.class) (get_or-set_same ws s.nodes (with_class (row ws s.nodes) (class ws j)) absent (omega (arith, fit_ws))) in
        (closing.merge t₁ (class ws) (class ys) ps start j s.nodes (omega (arith, f.1)) (omega arith) (omega (arith, f.1, class_new))
        (closing.alike t₁ (class ws) ps start j s.nodes (omega (arith, f.1)) (omega arith)
        (ap (map_parts (class ws)) (at j (omega (arith, f.1))) ∙ f.2 ∙ sym (ap (map_parts (class ws)) (at s.nodes (omega arith)))))
        (record {
          moved = λ i h e. moved f i (omega arith) e cn;
          kept = λ i h ne. stays i (λ q. ne (ap (class ws) q));
        })
        ).still
    | inr f ↦ subst (λ (us : List Row). Partway t₁ (class us) ps) (sym f.1) start
  ]
    where
      moved : (f : (j : ℕ) × (j < s.nodes) × (sign ws j ≡ sign ws s.nodes) × (ys ≡ set ws s.nodes (with_class (row ws s.nodes) (class ws j)))) (i : ℕ) → i < s.nodes + 1
          → class ws i ≡ class ws s.nodes → class ys s.nodes ≡ class ws f.0 → class ys i ≡ class ws f.0
      moved f i h e cn = elim (last i s.nodes h) [
        | inl l ↦ absurd (omega (arith, class_ws i l, (K.based i l).0, class_new))
        | inr q ↦ ap (class ys) q ∙ cn
      ]

  sign_ys : (i : ℕ) → i < s.nodes + 1 → sign ys i ≡ sign ws i
  unfolding ws
  sign_ys i h = sign_put s.rows s.nodes x fit ys P tidy_ws i h

  sign_old : (i : ℕ) → i < s.nodes → sign ws i ≡ sign s.rows i
  unfolding ws
  sign_old i h = sign_below s.rows ws s.nodes (λ p l. old s.rows s.nodes x fit p (omega arith)) K.tidy i h

  class_ys : (p : ℕ) → p < s.nodes → class ys p ≡ class s.rows p
  class_ys p h = class_old s.rows s.nodes x fit ys P p h

  to_last : (i : ℕ) → i < s.nodes → sign ws i ≡ sign ws s.nodes → class ys i ≡ class ys s.nodes
  unfolding ws
  to_last i h e = elim P [
    | inl f ↦
        let j = f.0 in
        class_ys i h
        ∙ K.level i j h f.1 (sym (sign_old i h) ∙ e ∙ sym f.2 ∙ sign_old j f.1)
        ∙ sym (class_ws j f.1)
        ∙ sym (ap (λ (us : List Row). class us s.nodes) f.3
        ∙ ap (λ (r : Row). r.node.class) (get_or-set_same ws s.nodes (with_class (row ws s.nodes) (class ws j)) absent (omega (arith, fit_ws))))
    | inr f ↦ absurd (f.0 i h e)
  ]

  level_ys : Level ys (s.nodes + 1)
  level_ys i j h l e = elim (last i s.nodes h) [
    | inl p ↦ elim (last j s.nodes l) [
      | inl q ↦ class_ys i p ∙ K.level i j p q (sym (sign_old i p) ∙ d ∙ sign_old j q) ∙ sym (class_ys j q)
      | inr q ↦ to_last i p (d ∙ ap (sign ws) q) ∙ sym (ap (class ys) q)
    ]
    | inr p ↦ elim (last j s.nodes l) [
      | inl q ↦ ap (class ys) p ∙ sym (to_last j q (sym d ∙ ap (sign ws) p))
      | inr q ↦ ap (class ys) (p ∙ sym q)
    ]
  ]
    where
      d : sign ws i ≡ sign ws j
      d = sym (sign_ys i h) ∙ e ∙ sign_ys j l

  row_old : (i : ℕ) → i < s.nodes → row zs i ≡ with_choice (row s.rows i) 0
  row_old i h = U.within i (omega arith) ∙ ap (λ (r : Row). with_choice r 0) (put_old s.rows s.nodes x fit ys P i (omega arith))

  row_past : (i : ℕ) → s.nodes < i → row zs i ≡ row s.rows i
  row_past i h = U.past i (omega arith) ∙ put_old s.rows s.nodes x fit ys P i (omega arith)

  row_new : row zs s.nodes ≡ with_choice (with_class (with_node (row s.rows s.nodes) x) (class ys s.nodes)) 0
  row_new = U.within s.nodes (omega arith) ∙ ap (λ (r : Row). with_choice r 0) (put_new s.rows s.nodes x fit ys P)

  long : length zs ≡ length s.rows
  long = U.long ∙ put_long s.rows s.nodes x fit ys P

  -- what is not of the node stays
  rest : (i : ℕ) → with_node (row zs i) x ≡ with_node (row s.rows i) x
  rest i = elim (three i s.nodes) [
    | inl e ↦ ap (λ (k : ℕ). with_node (row zs k) x) e ∙ ap (λ (r : Row). with_node r x) row_new ∙ sym (ap (λ (k : ℕ). with_node (row s.rows k) x) e)
    | inr o ↦ elim o [ inl e ↦ ap (λ (r : Row). with_node r x) (row_old i e) | inr e ↦ ap (λ (r : Row). with_node r x) (row_past i e) ]
  ]

  cores : (i : ℕ) → core (row zs i) ≡ core (row ys i)
  cores = unchosen_core ys zs (s.nodes + 1) U

  same_class : class zs ≡ class ys
  same_class = core_class ys zs cores

  zs_shape : (i : ℕ) → shape zs i ≡ shape ws i
  unfolding ws
  zs_shape i = ap (shape_of bare) (cores i) ∙ put_shape s.rows s.nodes x fit ys P i

  fit_zs : s.nodes + 1 ≤ length zs
  fit_zs = omega (arith, fit, long)

  zs_table : table bare zs (s.nodes + 1) ≡ t₁
  unfolding t₁
  zs_table = same_table bare (s.nodes + 1) ws zs fit_ws fit_zs (λ i h. zs_shape i)

  zs_said : pairs_in zs s.equations ≡ ps
  unfolding ps
  zs_said = same_pairs s.rows zs s.equations K.equations_fit.0 (omega (arith, long, K.equations_fit.0)) (λ i h. ap (λ (r : Row). (r.equation.left, r.equation.right)) (rest i))

  follows : Follows zs (s.nodes + 1) s.equations
  follows i j h l e =
      let z : length t₁ ≡ s.nodes + 1 = ap length (sym zs_table) ∙ table_long bare zs (s.nodes + 1) fit_zs in
      subst₂ (λ (t : Table) (qs : NodePairs). Equal (equations t qs) (build_at t i) (build_at t j)) (sym zs_table) (sym zs_said)
      (put_partway.sound i j (omega arith) (omega arith) (sym (ap (λ (f : ℕ → ℕ). f i) same_class) ∙ e ∙ ap (λ (f : ℕ → ℕ). f j) same_class))

  abbrev Side : ℕ × ℕ → Type 0
  Side p = (p.0 < s.nodes + 1) × (p.1 < s.nodes + 1) × (class zs p.0 ≡ class zs p.1)

  class_zs : (p : ℕ) → p < s.nodes → class zs p ≡ class s.rows p
  class_zs p h = ap (λ (f : ℕ → ℕ). f p) same_class ∙ class_ys p h

  obeys : Obeys zs (s.nodes + 1) s.equations
  obeys i h =
      let o = K.obeys i h in
      subst Side (sym (ap (λ (r : Row). (r.equation.left, r.equation.right)) (rest i)))
      (omega (arith, o.0), omega (arith, o.1), class_zs (row s.rows i).equation.left o.0 ∙ o.2 ∙ sym (class_zs (row s.rows i).equation.right o.1))

  ws_new : shape ws s.nodes ≡ shape_of bare x
  unfolding ws
  ws_new = ap (λ (r : Row). shape_of bare r.node) (new s.rows s.nodes x fit)

  ws_old : (i : ℕ) → i < s.nodes → shape ws i ≡ shape s.rows i
  unfolding ws
  ws_old i h = ap (λ (r : Row). shape_of bare r.node) (old s.rows s.nodes x fit i (omega arith))

  clash : (i : ℕ) → i < s.nodes → shape s.rows i ≡ shape_of bare x → ⊥
  clash i h e =
      let g = to_agree (λ p. p) bare i s.nodes (row s.rows i).node x (K.tidy i h) tx (ap (map_parts (λ p. p)) e) in
      fresh i h (λ k. record { symbol = bare_one (row s.rows i).node.symbol x.symbol g.0 k; parts = g.1 k; left = g.2 k; right = g.3 k })

  distinct : Distinct zs (s.nodes + 1)
  distinct i j h l e = elim (last i s.nodes h) [
    | inl p ↦ elim (last j s.nodes l) [
      | inl q ↦ K.distinct i j p q (sym (ws_old i p) ∙ d ∙ ws_old j q)
      | inr q ↦ absurd (clash i p (sym (ws_old i p) ∙ d ∙ ap (shape ws) q ∙ ws_new))
    ]
    | inr p ↦ elim (last j s.nodes l) [
      | inl q ↦ absurd (clash j q (sym (ws_old j q) ∙ sym d ∙ ap (shape ws) p ∙ ws_new))
      | inr q ↦ p ∙ sym q
    ]
  ]
    where
      d : shape ws i ≡ shape ws j
      d = sym (zs_shape i) ∙ e ∙ zs_shape j

  tidy_zs : Tidy zs (s.nodes + 1)
  tidy_zs i h = elim (last i s.nodes h) [
    | inl l ↦ subst (λ (r : Row). TidyNode i r.node) (sym (row_old i l)) (K.tidy i l)
    | inr e ↦ subst (λ (k : ℕ). TidyNode k (row zs k).node) (sym e) (subst (λ (r : Row). TidyNode s.nodes r.node) (sym row_new) tx)
  ]

  based_zs : Based zs (s.nodes + 1)
  based_zs =
      let z : length t₁ ≡ s.nodes + 1 = ap length (sym zs_table) ∙ table_long bare zs (s.nodes + 1) fit_zs in
      core_based ys zs (s.nodes + 1) cores (λ i h. (put_partway.least i (omega arith), put_partway.fixed i (omega arith)))

  pub sound_added : Sound (record { rows = zs; names = s.names; nodes = s.nodes + 1; equations = s.equations; priced = false })
  sound_added =
      record {
        names_fit = (omega (arith, K.names_fit.0, long), K.names_fit.1);
        nodes_fit = (fit_zs, omega arith);
        equations_fit = (omega (arith, K.equations_fit.0, long), K.equations_fit.1);
        tidy = tidy_zs;
        spelt = spelt_same s K zs (λ i. ap (λ (r : Row). r.name) (rest i));
        named = named_same s K zs (λ i. ap (λ (r : Row). r.name) (rest i));
        known = λ i h. elim (last i s.nodes h) [
          | inl l ↦ subst (λ (r : Row). r.node.symbol < s.names) (sym (row_old i l)) (K.known i l)
          | inr e ↦ subst (λ (k : ℕ). (row zs k).node.symbol < s.names) (sym e) (subst (λ (r : Row). r.node.symbol < s.names) (sym row_new) kx)
        ];
        distinct = distinct;
        based = based_zs;
        level = core_level ys zs (s.nodes + 1) cores level_ys;
        obeys = obeys;
        follows = follows;
        blank = λ i h l.
            let B = K.blank i (omega (arith, long)) l in (
              λ q. ap (λ (r : Row). r.name) (rest i) ∙ B.0 q,
              λ q. ap (λ (r : Row). r.node) (row_past i (omega arith)) ∙ B.1 (omega arith),
              λ q. ap (λ (r : Row). r.equation) (rest i) ∙ B.2 q,
            );
        unpriced = λ e i h. ap (λ (r : Row). r.node.choice) (U.within i h);
        priced = λ e i h. absurd (true≢false (sym e));
      }
