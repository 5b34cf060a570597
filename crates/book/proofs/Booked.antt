-- A sound book is a book of the theory, and it is laid in its rows to the last byte.
use Rattle.std.proofs.Common.{◌≡◌, ℕ, zero, suc, ◌+◌, ◌-◌, ◌<◌, ◌≤◌, Bool, true, false, cond, ◌⊎◌, List, [], ◌++◌, map, length, get_or, take, replicate, sym, refl, ap, ◌∙◌, subst, inl, inr, arith}
use mathlib.Core.List.Memᴰ
use Rattle.std.proofs.lemmas.List.{ext_get_or, get_or-take, get_or_past, get_or-map, get_or_append_left, get_or-append_right, get_or-replicate, length-append, length-take, length-map}
use Rattle.theory.specs.Names.{Name, IsName}
use Rattle.theory.specs.Builds.{Build}
use Rattle.theory.specs.Equality.{Equal, same}
use Rattle.theory.specs.Tables.{Shape, atom, unary, binary, Closed, shape_at, map_parts, equations}
use Rattle.theory.specs.Books.{Parts, symbol, Book, Lowest, table as table_of, build, name_at, node_at, class as class_at}
use Rattle.theory.specs.Calls.{Answer, refused}
use Rattle.theory.proofs.Books.{table_length}
use Rattle.theory.proofs.Grammar.{completeness}
use Rattle.text.specs.Causes.{number_of}
use Rattle.text.specs.declared.cause.Layer.{Layer}
use Rattle.book.specs.declared.row.Row.{Row}
use Rattle.book.specs.Rows.{row, class, name_of, trimmed}
use Rattle.book.specs.Layout.{Contents, room, entry, entry_of, state_of, laid_name, laid_node, laid_equation, laid_row, Laid, Relaid}
use Rattle.book.specs.Invariant.{Sound, Padded}
use Rattle.book.specs.declared.table.Table.{Table}
use Rattle.book.specs.Held.{Kept, Holds, contents}
use Rattle.book.proofs.Accepting.{either}
use Rattle.book.proofs.Columns.{column_long, column_at, column_past}
use Rattle.book.proofs.Whole.{sound_of}
use Rattle.book.proofs.States.{entry_symbol, entry_lower, names_long, nodes_long, classes_long, equated_long, name_is, node_is, class_is, closed_state}

id_map : (x : Shape) → map_parts (λ p. p) x ≡ x
id_map (atom a) = refl
id_map (unary a p) = refl
id_map (binary a p q) = refl

module _ (s : Contents) (K : Sound s) where
  inside : (i : ℕ) → i < s.nodes → i < length (table_of (state_of s))
  inside i h = omega (arith, table_length (state_of s), nodes_long s K)

  below : (i : ℕ) → i < length (table_of (state_of s)) → i < s.nodes
  below i h = omega (arith, table_length (state_of s), nodes_long s K)

  -- with no equation each node is a class
  apart : Closed (table_of (state_of s)) (λ i. i) []
  apart =
      let C = closed_state s K in
      record {
        lower = C.lower;
        least = λ i h. omega arith;
        fixed = λ i h. refl;
        congruent = λ i j h l e. C.distinct i j h l (sym (id_map (shape_at (table_of (state_of s)) i)) ∙ e ∙ id_map (shape_at (table_of (state_of s)) j));
        joined = λ i j m. absurd (Memᴰ.not-nil m);
        sound = λ i j h l e. subst (λ (k : ℕ). Equal (equations (table_of (state_of s)) []) (build (state_of s) i) (build (state_of s) k)) e same;
        distinct = C.distinct;
      }

  builds_apart : (i j : ℕ) → i < s.nodes → j < s.nodes → build (state_of s) i ≡ build (state_of s) j → i ≡ j
  builds_apart i j h l e =
      (completeness (table_of (state_of s)) (λ k. k) [] apart i j (inside i h) (inside j l)).0
      (subst (λ (u : Build). Equal (equations (table_of (state_of s)) []) (build (state_of s) i) u) e same)

  pub lowest : (i : ℕ) → i < s.nodes → Lowest (state_of s) i (class s.rows i)
  lowest i h =
      let C = closed_state s K in
      let b = K.based i h in
      let l : class s.rows i < s.nodes = omega (arith, b.0) in
      record {
        here = omega (arith, nodes_long s K);
        alike = C.sound (class s.rows i) i (inside (class s.rows i) l) (inside i h) b.1;
        low = λ j m q.
            let m' : j < s.nodes = omega (arith, nodes_long s K) in
            let e = (completeness (table_of (state_of s)) (class s.rows) (state_of s).equated C j i (inside j m') (inside i h)).0 q in
            omega (arith, (K.based j m').0);
      }

  pub book_of : Book (state_of s)
  book_of =
      let n = names_long s K in
      let m = nodes_long s K in
      record {
        limit = omega arith;
        names_fit = omega (arith, K.names_fit);
        nodes_fit = omega (arith, K.nodes_fit);
        equated_fit = omega (arith, equated_long s K, K.equations_fit);
        formed = λ k h. let h' : k < s.names = omega arith in subst IsName (sym (name_is s K k h')) (K.spelt k h').0;
        names_apart = λ j k h l e.
            let h' : j < s.names = omega arith in
            let l' : k < s.names = omega arith in
            K.named j k h' l' (sym (name_is s K j h') ∙ e ∙ name_is s K k l');
        symbols = λ i h.
            let h' : i < s.nodes = omega arith in
            let x = (row s.rows i).node in
            let e = ap symbol (node_is s K i h') ∙ entry_symbol x.symbol x.parts x.left x.right in
            omega (arith, K.known i h');
        lower = λ i h.
            let h' : i < s.nodes = omega arith in
            subst (Parts (λ p. p < i)) (sym (node_is s K i h')) (entry_lower i (row s.rows i).node (K.tidy i h'));
        builds_apart = λ i j h l e. builds_apart i j (omega arith) (omega arith) e;
        between = λ a b q.
            let j = (closed_state s K).joined a b q in
            (omega (arith, below a j.0), omega (arith, below b j.1));
        classed = classes_long s K ∙ sym m;
        lowest = λ i h.
            let h' : i < s.nodes = omega arith in
            subst (Lowest (state_of s) i) (sym (class_is s K i h')) (lowest i h');
        unpriced = λ e. ap (λ (v : Bool). cond v (map (λ (r : Row). r.node.choice - 1) (take s.nodes s.rows)) []) e;
        chosen = λ e.
            ap (λ (v : Bool). length (cond v (map (λ (r : Row). r.node.choice - 1) (take s.nodes s.rows)) [])) e
            ∙ column_long (λ (r : Row). r.node.choice - 1) s.rows s.nodes K.nodes_fit.0
            ∙ sym m;
      }

-- twelve bytes that are padded are those of the layout
laid_padded : (name : List ℕ) (bs : Name) → length bs ≤ 12 → Padded name bs → name ≡ laid_name bs
laid_padded name bs h P =
    let z : length (bs ++ replicate 12 0) ≡ length bs + 12 = length-append bs (replicate 12 0) in
    ext_get_or 0 name (laid_name bs) (P.long ∙ sym (length-take 12 (bs ++ replicate 12 0) ∙ omega (arith, z)))
    (λ i l. P.bytes i ∙ sym (get_or-take 12 (bs ++ replicate 12 0) i 0 (omega (arith, P.long)) ∙ at i (omega (arith, P.long)) (either i (length bs))))
  where
    at : (i : ℕ) → i < 12 → (i < length bs) ⊎ (length bs ≤ i) → get_or (bs ++ replicate 12 0) i 0 ≡ get_or bs i 0
    at i l (inl q) = get_or_append_left bs (replicate 12 0) 0 i q
    at i l (inr q) =
        get_or-append_right bs (replicate 12 0) (length bs) i 0 refl q
        ∙ get_or-replicate 12 (i - length bs) 0 0 (omega arith)
        ∙ sym (get_or_past bs i 0 q)

laid_entry : (x p l r k c : ℕ) → p ≤ 2 → (p < 1 → l ≡ 0) → (p < 2 → r ≡ 0)
    → laid_node (entry x p l r) k c ≡ record { symbol = x; parts = p; left = l; right = r; class = k; choice = c }
laid_entry x zero l r k c a b d =
    λ i. record { symbol = x; parts = 0; left = sym (b (omega arith)) i; right = sym (d (omega arith)) i; class = k; choice = c }
laid_entry x (suc zero) l r k c a b d =
    λ i. record { symbol = x; parts = 1; left = l; right = sym (d (omega arith)) i; class = k; choice = c }
laid_entry x (suc (suc zero)) l r k c a b d = refl
laid_entry x (suc (suc (suc n))) l r k c a b d = absurd (omega arith)

module _ (s : Contents) (K : Sound s) (i : ℕ) (h : i < room s) where
  laid_name_at : (row s.rows i).name ≡ laid_name (name_at (state_of s) i)
  laid_name_at = go (either i s.names)
    where
      go : (i < s.names) ⊎ (s.names ≤ i) → (row s.rows i).name ≡ laid_name (name_at (state_of s) i)
      go (inl l) =
          laid_padded (row s.rows i).name (name_of s.rows i) (K.spelt i l).0.few (K.spelt i l).1
          ∙ ap laid_name (sym (name_is s K i l))
      go (inr l) =
          (K.blank i (omega arith) (omega arith)).0 l
          ∙ ap laid_name (sym (column_past (λ (r : Row). trimmed r.name) s.rows s.names i [] K.names_fit.0 l))

  -- one more than a choice of the state is the choice of the row
  kept_choice : i < s.nodes → (v : Bool) → s.priced ≡ v
      → get_or (map suc (cond v (map (λ (r : Row). r.node.choice - 1) (take s.nodes s.rows)) [])) i 0 ≡ (row s.rows i).node.choice
  kept_choice l true e =
      let z = column_long (λ (r : Row). r.node.choice - 1) s.rows s.nodes K.nodes_fit.0 in
      let g = get_or-map suc (map (λ (r : Row). r.node.choice - 1) (take s.nodes s.rows)) i 0 0 (omega arith) in
      let q = column_at (λ (r : Row). r.node.choice - 1) s.rows s.nodes i 0 K.nodes_fit.0 l in
      omega (arith, K.priced e i l)
  kept_choice l false e = sym (K.unpriced e i l)

  no_choice : s.nodes ≤ i → (v : Bool)
      → get_or (map suc (cond v (map (λ (r : Row). r.node.choice - 1) (take s.nodes s.rows)) [])) i 0 ≡ 0
  no_choice l true =
      get_or_past (map suc (map (λ (r : Row). r.node.choice - 1) (take s.nodes s.rows))) i 0
      (omega (
        arith,
        length-map (map (λ (r : Row). r.node.choice - 1) (take s.nodes s.rows)) suc,
        column_long (λ (r : Row). r.node.choice - 1) s.rows s.nodes K.nodes_fit.0,
      ))
  no_choice l false = refl

  laid_node_at : (row s.rows i).node ≡ laid_node (node_at (state_of s) i) (class_at (state_of s) i) (get_or (map suc (state_of s).choices) i 0)
  laid_node_at = go (either i s.nodes)
    where
      go : (i < s.nodes) ⊎ (s.nodes ≤ i)
          → (row s.rows i).node ≡ laid_node (node_at (state_of s) i) (class_at (state_of s) i) (get_or (map suc (state_of s).choices) i 0)
      go (inl l) =
          let x = (row s.rows i).node in
          let T = K.tidy i l in
          let a = node_is s K i l in
          let b = class_is s K i l in
          let c = kept_choice l s.priced refl in
          sym (laid_entry x.symbol x.parts x.left x.right x.class x.choice T.0 T.3 T.4)
          ∙ (λ j. laid_node (sym a j) (sym b j) (sym c j))
      go (inr l) =
          let a = column_past (λ (r : Row). entry_of r.node) s.rows s.nodes i (entry 0 0 0 0) K.nodes_fit.0 l in
          let b = column_past (λ (r : Row). r.node.class) s.rows s.nodes i 0 K.nodes_fit.0 l in
          let c = no_choice l s.priced in
          (K.blank i (omega arith) (omega arith)).1 l ∙ (λ j. laid_node (sym a j) (sym b j) (sym c j))

  laid_equation_at : (row s.rows i).equation ≡ laid_equation (get_or (state_of s).equated i (0, 0))
  laid_equation_at = go (either i s.equations)
    where
      go : (i < s.equations) ⊎ (s.equations ≤ i) → (row s.rows i).equation ≡ laid_equation (get_or (state_of s).equated i (0, 0))
      go (inl l) = ap laid_equation (sym (column_at (λ (r : Row). (r.equation.left, r.equation.right)) s.rows s.equations i (0, 0) K.equations_fit.0 l))
      go (inr l) =
          (K.blank i (omega arith) (omega arith)).2 l
          ∙ ap laid_equation (sym (column_past (λ (r : Row). (r.equation.left, r.equation.right)) s.rows s.equations i (0, 0) K.equations_fit.0 l))

  laid_at : row s.rows i ≡ laid_row (state_of s) i
  laid_at = λ j. record { name = laid_name_at j; node = laid_node_at j; equation = laid_equation_at j }

pub laid_of : (s : Contents) → Sound s → Laid s
laid_of s K i h = laid_at s K i h

pub kept_of : (s : Contents) → Sound s → Kept s
kept_of s K = record { book = book_of s K; laid = laid_of s K; sound = K }

-- rows that were left alone are laid as before
pub laid_still : (s : Contents) → Sound s → Relaid s s
laid_still s K = record { long = refl; laid = laid_of s K; past = λ i h. refl }

pub laid_left : (t : Table) → Holds t → Relaid (contents t) (contents t)
laid_left t h = laid_still (contents t) (sound_of (contents t) h)

-- a refusal is answered by its number
pub told : {A : Type 0} {l m : Layer} → l ≡ m → ◌≡◌ {A = Answer A} (refused (number_of l)) (refused (number_of m))
told e = ap (λ (l : Layer). refused (number_of l)) e
