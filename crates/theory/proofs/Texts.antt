-- A text has one reading: lawful builds with the same text are the same build; and a build is no deeper than its text is long.
use Rattle.std.proofs.Common.{◌≡◌, ℕ, ◌+◌, ◌≤◌, max, List, [], ◌∷◌, ◌++◌, length, get_or, sym, refl, ap, ◌∙◌, ap₂, append_assoc, append-nil, arith, length-append}
use native.Mathlib.Nat.{max-le}
use Rattle.theory.specs.Names.{Name, IsName}
use Rattle.theory.specs.Builds.{Build, alone, one, two, text, depth, Lawful}
use Rattle.theory.specs.Fronts.{name_run, Ended}
use Rattle.theory.specs.Statements.{OneReading, DepthWithin}
use Rattle.theory.proofs.Runs.{run_of_name, same_name, same_rest}

-- ---- what is written of a build over parts, with a rest behind it

pub text_one : (x : Name) (u : Build) (ys : List ℕ) → text (one x u) ++ ys ≡ x ++ (40 ∷ (text u ++ (41 ∷ ys)))
text_one x u ys = simp append_assoc

pub text_two : (x : Name) (u v : Build) (ys : List ℕ) → text (two x u v) ++ ys ≡ x ++ (40 ∷ (text u ++ (44 ∷ (text v ++ (41 ∷ ys)))))
text_two x u v ys = simp append_assoc

-- ---- a close bracket, a comma and the end of the text end every build

pub ended_close : (u : Build) (ys : List ℕ) → Ended u (41 ∷ ys)
ended_close (alone x) ys = (refl, λ e. omega arith)
ended_close (one x u) ys = tt
ended_close (two x u v) ys = tt

pub ended_comma : (u : Build) (ys : List ℕ) → Ended u (44 ∷ ys)
ended_comma (alone x) ys = (refl, λ e. omega arith)
ended_comma (one x u) ys = tt
ended_comma (two x u v) ys = tt

pub ended_end : (u : Build) → Ended u []
ended_end (alone x) = (refl, λ e. omega arith)
ended_end (one x u) = tt
ended_end (two x u v) = tt

-- ---- one text has one reading

-- two names in front of what are no name bytes: one name, and one rest
pub record SameName (x y : Name) (ys zs : List ℕ) : Type 0 where
  pub name : x ≡ y
  pub rest : ys ≡ zs

pub split_name : {x y : Name} {ys zs : List ℕ} → IsName x → IsName y → name_run ys ≡ [] → name_run zs ≡ [] → x ++ ys ≡ y ++ zs → SameName x y ys zs
split_name {x} {y} {ys} {zs} m n p q e =
    record {
      name = same_name x y ys zs (run_of_name m) (run_of_name n) p q e;
      rest = same_rest x y ys zs (run_of_name m) (run_of_name n) p q e;
    }

-- after a name alone no bracket opens
pub not_opened : {X : Type 0} (ys zs : List ℕ) → (get_or ys 0 0 ≡ 40 → ⊥) → ys ≡ 40 ∷ zs → X
not_opened ys zs shut e = elim (shut (ap (λ l. get_or l 0 0) e)) [ ]

-- two lawful builds that stand in front of one text and end there are one build, and leave one rest
pub same_reading : (u v : Build) (ys zs : List ℕ) → Lawful u → Lawful v → Ended u ys → Ended v zs → text u ++ ys ≡ text v ++ zs → (u ≡ v) × (ys ≡ zs)
same_reading (alone x) (alone y) ys zs m n a b e =
    let s = split_name m n a.0 b.0 e in (ap alone s.name, s.rest)
same_reading (alone x) (one y v) ys zs m n a b e =
    not_opened ys (text v ++ (41 ∷ zs)) a.1 (split_name m n.0 a.0 refl (e ∙ text_one y v zs)).rest
same_reading (alone x) (two y v v') ys zs m n a b e =
    not_opened ys (text v ++ (44 ∷ (text v' ++ (41 ∷ zs)))) a.1 (split_name m n.0 a.0 refl (e ∙ text_two y v v' zs)).rest
same_reading (one x u) (alone y) ys zs m n a b e =
    not_opened zs (text u ++ (41 ∷ ys)) b.1 (sym (split_name m.0 n refl b.0 (sym (text_one x u ys) ∙ e)).rest)
same_reading (one x u) (one y v) ys zs m n a b e =
    let s : SameName x y (40 ∷ (text u ++ (41 ∷ ys))) (40 ∷ (text v ++ (41 ∷ zs))) =
    split_name m.0 n.0 refl refl (sym (text_one x u ys) ∙ e ∙ text_one y v zs) in
    let r = s.rest in
    let p = same_reading u v (41 ∷ ys) (41 ∷ zs) m.1 n.1 (ended_close u ys) (ended_close v zs) (cc) in
    let q = p.1 in
    (ap₂ one s.name p.0, cc)
same_reading (one x u) (two y v v') ys zs m n a b e =
    let s : SameName x y (40 ∷ (text u ++ (41 ∷ ys))) (40 ∷ (text v ++ (44 ∷ (text v' ++ (41 ∷ zs))))) =
    split_name m.0 n.0 refl refl (sym (text_one x u ys) ∙ e ∙ text_two y v v' zs) in
    let r = s.rest in
    let p = same_reading u v (41 ∷ ys) (44 ∷ (text v' ++ (41 ∷ zs))) m.1 n.1 (ended_close u ys) (ended_comma v _) (cc) in
    let q = p.1 in
    let z : ◌≡◌ {A = ℕ} 41 44 = cc in elim (let no : ⊥ = omega arith in no) [ ]
same_reading (two x u u') (alone y) ys zs m n a b e =
    not_opened zs (text u ++ (44 ∷ (text u' ++ (41 ∷ ys)))) b.1 (sym (split_name m.0 n refl b.0 (sym (text_two x u u' ys) ∙ e)).rest)
same_reading (two x u u') (one y v) ys zs m n a b e =
    let s : SameName x y (40 ∷ (text u ++ (44 ∷ (text u' ++ (41 ∷ ys))))) (40 ∷ (text v ++ (41 ∷ zs))) =
    split_name m.0 n.0 refl refl (sym (text_two x u u' ys) ∙ e ∙ text_one y v zs) in
    let r = s.rest in
    let p = same_reading u v (44 ∷ (text u' ++ (41 ∷ ys))) (41 ∷ zs) m.1 n.1 (ended_comma u _) (ended_close v zs) (cc) in
    let q = p.1 in
    let z : ◌≡◌ {A = ℕ} 44 41 = cc in elim (let no : ⊥ = omega arith in no) [ ]
same_reading (two x u u') (two y v v') ys zs m n a b e =
    let s : SameName x y (40 ∷ (text u ++ (44 ∷ (text u' ++ (41 ∷ ys))))) (40 ∷ (text v ++ (44 ∷ (text v' ++ (41 ∷ zs))))) =
    split_name m.0 n.0 refl refl (sym (text_two x u u' ys) ∙ e ∙ text_two y v v' zs) in
    let r = s.rest in
    let p = same_reading u v (44 ∷ (text u' ++ (41 ∷ ys))) (44 ∷ (text v' ++ (41 ∷ zs))) m.1 n.1 (ended_comma u _) (ended_comma v _) (cc) in
    let q = p.1 in
    let p' = same_reading u' v' (41 ∷ ys) (41 ∷ zs) m.2 n.2 (ended_close u' ys) (ended_close v' zs) (cc) in
    let q' = p'.1 in
    let name = s.name in let first = p.0 in let second = p'.0 in
    (cc, cc)

pub one_reading : OneReading
one_reading u v m n e =
    (same_reading u v [] [] m n (ended_end u) (ended_end v) (append-nil (text u) ∙ e ∙ sym (append-nil (text v)))).0

-- ---- depth

pub depth_within : DepthWithin
depth_within (alone x) m = m.some
depth_within (one x u) m = let p = depth_within u m.1 in simp length-append (omega arith)
depth_within (two x u v) m =
    let p = depth_within u m.1 in
    let q = depth_within v m.2 in
    let k : max (depth u) (depth v) ≤ length (text u) + length (text v) = max-le (omega arith) (omega arith) in
    simp length-append (omega arith)
