-- Names of symbols: how they are padded and found, and that a book stays a book when one is added.
use Rattle.std.proofs.Common.{◌≡◌, ℕ, zero, suc, ◌+◌, ◌<◌, ◌≤◌, true≢false, ◌≢◌, List, [], ◌∷◌, length, get_or, set, take, Some, None, position, sym, refl, ap, ◌∙◌, subst, ap₂, subst₂, inl, inr, le_of_suc-le-suc, not-suc-le-zero, arith, length-set}
use Rattle.std.specs.Str.{bytes_eq}
use Rattle.std.proofs.lemmas.Slice.Eq.{bytes_eq-Decides}
use Rattle.std.proofs.lemmas.List.{get_or-set_same, get_or-set_other, ext_get_or}
use Rattle.theory.specs.Names.{Name, name_byte, IsName}
use Rattle.book.specs.declared.row.Row.{Row}
use Rattle.book.specs.Rows.{absent, trimmed, name_of, row}
use Rattle.book.specs.Layout.{Contents, room}
use Rattle.book.specs.Invariant.{Sound, Padded}
use Rattle.book.specs.Changes.{with_name, Titled}
use Rattle.book.proofs.Cores.{core, set_field, core_tidy, core_based, core_level}
use Rattle.book.proofs.Same.{known_same, distinct_same, obeys_same, follows_same}
use Rattle.book.proofs.Adding.{last}
use Rattle.book.proofs.Found.{found_at, found_none}

full : (bs : Name) → IsName bs → (k : ℕ) → k < length bs → get_or bs k 0 ≢ 0
full bs G k h e = true≢false (sym (G.bytes k h) ∙ ap name_byte e)

-- what is trimmed off are the zeros
trimmed_is : (nm bs : List ℕ) → length bs ≤ length nm → ((k : ℕ) → get_or nm k 0 ≡ get_or bs k 0) → ((k : ℕ) → k < length bs → get_or bs k 0 ≢ 0) → trimmed nm ≡ bs
trimmed_is [] [] h f g = refl
trimmed_is [] (c ∷ cs) h f g = absurd (not-suc-le-zero h)
trimmed_is (zero ∷ nm) [] h f g = refl
trimmed_is (suc b ∷ nm) [] h f g = absurd (let e = f 0 in omega arith)
trimmed_is (zero ∷ nm) (c ∷ cs) h f g = absurd (g 0 (omega arith) (sym (f 0)))
trimmed_is (suc b ∷ nm) (c ∷ cs) h f g =
    ap₂ ◌∷◌ (f 0) (trimmed_is nm cs (le_of_suc-le-suc h) (λ k. f (suc k)) (λ k l. g (suc k) (omega arith)))

pub padded_name : (title : List ℕ) (bs : Name) → IsName bs → Padded title bs → trimmed title ≡ bs
padded_name title bs G P = trimmed_is title bs (omega (arith, G.few, P.long)) P.bytes (full bs G)

-- what the search for a name finds
module _ (s : Contents) (K : Sound s) (title : List ℕ) (bs : Name) (G : IsName bs) (P : Padded title bs) where
  pub known_title : (i : ℕ) → Some i ≡ position (λ (r : Row). bytes_eq r.name title) (take s.names s.rows) → (i < s.names) × (name_of s.rows i ≡ bs)
  known_title i e =
      let f = found_at (λ (r : Row). bytes_eq r.name title) s.rows s.names K.names_fit.0 i e in
      (f.0, ap trimmed ((bytes_eq-Decides (row s.rows i).name title).0 f.1) ∙ padded_name title bs G P)

  -- a name is padded in one way
  pub no_title : None ≡ position (λ (r : Row). bytes_eq r.name title) (take s.names s.rows) → (i : ℕ) → i < s.names → name_of s.rows i ≡ bs → ⊥
  no_title e i h g =
      let S = (K.spelt i h).1 in
      let same = ext_get_or 0 (row s.rows i).name title (S.long ∙ sym P.long) (λ j l. S.bytes j ∙ ap (λ (b : Name). get_or b j 0) g ∙ sym (P.bytes j)) in
      found_none (λ (r : Row). bytes_eq r.name title) s.rows s.names K.names_fit.0 e i h ((bytes_eq-Decides (row s.rows i).name title).1 same)

pub titled_of : (s : Contents) (title : List ℕ) (bs : Name) → Padded title bs → s.names < length s.rows
    → Titled s (record { rows = set s.rows s.names (with_name (row s.rows s.names) title); names = s.names + 1; nodes = s.nodes; equations = s.equations; priced = s.priced }) bs
titled_of s title bs P h =
    let r = with_name (row s.rows s.names) title in
    let e = get_or-set_same s.rows s.names r absent h in
    record {
      long = length-set s.rows s.names r;
      new = e ∙ ap (λ (q : Row). with_name (row s.rows s.names) q.name) (sym e);
      name = subst (λ (q : Row). Padded q.name bs) (sym e) P;
      other = λ i ne. get_or-set_other s.rows s.names i r absent ne;
      names = refl;
      nodes = refl;
      equations = refl;
      priced = refl;
    }

module _ (s : Contents) (K : Sound s) (title : List ℕ) (bs : Name) (G : IsName bs) (P : Padded title bs) (none : (i : ℕ) → i < s.names → name_of s.rows i ≡ bs → ⊥) (space : s.names < room s) where
  r : Row
  r = with_name (row s.rows s.names) title

  zs : List Row
  zs = set s.rows s.names (with_name (row s.rows s.names) title)

  long : length zs ≡ length s.rows
  unfolding zs
  long = length-set s.rows s.names (with_name (row s.rows s.names) title)

  other : (i : ℕ) → i ≢ s.names → row zs i ≡ row s.rows i
  unfolding zs
  other i ne = get_or-set_other s.rows s.names i (with_name (row s.rows s.names) title) absent ne

  here : row zs s.names ≡ with_name (row s.rows s.names) title
  unfolding zs
  here = get_or-set_same s.rows s.names (with_name (row s.rows s.names) title) absent (omega arith)

  -- what is not the name stays
  rest : (i : ℕ) → with_name (row zs i) [] ≡ with_name (row s.rows i) []
  unfolding zs
  rest i = set_field (λ (q : Row). with_name q []) s.rows s.names (with_name (row s.rows s.names) title) refl i

  cores : (i : ℕ) → core (row zs i) ≡ core (row s.rows i)
  cores i = ap core (rest i)

  fits : (n : ℕ) → n ≤ length s.rows → n ≤ length zs
  fits n h = omega (arith, long)

  new_name : name_of zs s.names ≡ bs
  new_name = ap (λ (q : Row). trimmed q.name) here ∙ padded_name title bs G P

  old_name : (i : ℕ) → i < s.names → name_of zs i ≡ name_of s.rows i
  old_name i h = ap (λ (q : Row). trimmed q.name) (other i (omega arith))

  said : (i : ℕ) → (row zs i).equation ≡ (row s.rows i).equation
  said i = ap (λ (q : Row). q.equation) (rest i)

  pub sound_titled : Sound (record { rows = set s.rows s.names (with_name (row s.rows s.names) title); names = s.names + 1; nodes = s.nodes; equations = s.equations; priced = s.priced })
  unfolding zs
  sound_titled =
      record {
        names_fit = (omega (arith, long), omega arith);
        nodes_fit = (fits s.nodes K.nodes_fit.0, K.nodes_fit.1);
        equations_fit = (fits s.equations K.equations_fit.0, K.equations_fit.1);
        tidy = core_tidy s.rows zs s.nodes cores K.tidy;
        spelt = λ i h. elim (last i s.names h) [
          | inl l ↦ subst (λ (q : Row). IsName (trimmed q.name) × Padded q.name (trimmed q.name)) (sym (other i (omega arith))) (K.spelt i l)
          | inr e ↦
              subst (λ (m : ℕ). IsName (name_of zs m) × Padded (row zs m).name (name_of zs m)) (sym e) (
                subst IsName (sym new_name) G,
                subst₂ (λ (t : List ℕ) (b : Name). Padded t b) (sym (ap (λ (q : Row). q.name) here)) (sym new_name) P,
              )
        ];
        named = λ i j h l e. elim (last i s.names h) [
          | inl p ↦ elim (last j s.names l) [
            | inl q ↦ K.named i j p q (sym (old_name i p) ∙ e ∙ old_name j q)
            | inr q ↦ absurd (none i p (sym (old_name i p) ∙ e ∙ ap (name_of zs) q ∙ new_name))
          ]
          | inr p ↦ elim (last j s.names l) [
            | inl q ↦ absurd (none j q (sym (old_name j q) ∙ sym e ∙ ap (name_of zs) p ∙ new_name))
            | inr q ↦ p ∙ sym q
          ]
        ];
        known = λ i h. let k = known_same s K zs long cores said i h in omega arith;
        distinct = distinct_same s K zs long cores said;
        based = core_based s.rows zs s.nodes cores K.based;
        level = core_level s.rows zs s.nodes cores K.level;
        obeys = obeys_same s K zs long cores said;
        follows = follows_same s K zs long cores said;
        blank = λ i h l.
            let B = K.blank i (omega (arith, long)) l in (
              λ q. ap (λ (r : Row). r.name) (other i (omega arith)) ∙ B.0 (omega arith),
              λ q. ap (λ (r : Row). r.node) (rest i) ∙ B.1 q,
              λ q. ap (λ (r : Row). r.equation) (rest i) ∙ B.2 q,
            );
        unpriced = λ e i h. ap (λ (r : Row). r.node.choice) (rest i) ∙ K.unpriced e i h;
        priced = λ e i h. let q = ap (λ (r : Row). r.node.choice) (rest i) in omega (arith, K.priced e i h);
      }
