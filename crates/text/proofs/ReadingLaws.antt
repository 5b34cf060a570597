-- The reading and the builds: it reads each lawful build to its end, and what it reads is a lawful build.
use Rattle.std.proofs.Common.{◌≡◌, ℕ, zero, suc, ◌<◌, ◌≤◌, true, false, cond, eqb, List, [], ◌∷◌, ◌++◌, length, Ok, Err, get_or, drop, sym, refl, ap, ◌∙◌, subst, ⊎_elim, arith, eqb-true}
use Rattle.std.proofs.lemmas.Bool.{cases_lt}
use borrow.Author.Tests.{eqb-false}
use Rattle.theory.specs.Names.{Name, IsName}
use Rattle.theory.specs.Fronts.{name_run, Ended}
use Rattle.theory.specs.Builds.{Build, alone, one, two, text, depth, Lawful}
use Rattle.theory.proofs.Runs.{run_split, run_rest}
use Rattle.theory.proofs.Texts.{text_one, text_two, ended_close, ended_comma}
use Rattle.text.specs.declared.build.BuildFault.TheVariants.{Broken, TooDeep}
use Rattle.text.specs.Reading.{Outcome, and_then, named?, opened, closed, followed, parts, reads}
use Rattle.text.proofs.ReadingSteps.{name_from_test, past_name, opened_none}

-- ---- a lawful build within the levels is read to its end

pub read_whole : (d : ℕ) (u : Build) (ys : List ℕ) → Lawful u → Ended u ys → depth u ≤ d → reads d (text u ++ ys) ≡ Ok ys
read_whole zero (alone x) ys m n h = absurd (omega arith)
read_whole zero (one x u) ys m n h = absurd (omega arith)
read_whole zero (two x u v) ys m n h = absurd (omega arith)
read_whole (suc d) (alone x) ys m n h =
    past_name (opened (parts (reads d))) x ys m n.0 ∙ opened_none (parts (reads d)) ys n.1
read_whole (suc d) (one x u) ys m n h =
    let p = read_whole d u (41 ∷ ys) m.1 (ended_close u ys) (omega arith) in
    ap (reads (suc d)) (text_one x u ys)
    ∙ past_name (opened (parts (reads d))) x (40 ∷ (text u ++ (41 ∷ ys))) m.0 refl
    ∙ ap (λ o. and_then o (followed (reads d))) p
read_whole (suc d) (two x u v) ys m n h =
    let p = read_whole d u (44 ∷ (text v ++ (41 ∷ ys))) m.1 (ended_comma u _) (omega arith) in
    let q = read_whole d v (41 ∷ ys) m.2 (ended_close v ys) (omega arith) in
    ap (reads (suc d)) (text_two x u v ys)
    ∙ past_name (opened (parts (reads d))) x (40 ∷ (text u ++ (44 ∷ (text v ++ (41 ∷ ys))))) m.0 refl
    ∙ ap (λ o. and_then o (followed (reads d))) p
    ∙ ap (λ o. and_then o closed) q

-- ---- a deeper one is too deep, and never broken

pub read_deep : (d : ℕ) (u : Build) (ys : List ℕ) → Lawful u → Ended u ys → d < depth u → reads d (text u ++ ys) ≡ Err TooDeep
read_deep zero (alone x) ys m n h = past_name (λ _. Err TooDeep) x ys m n.0
read_deep zero (one x u) ys m n h =
    ap (reads zero) (text_one x u ys) ∙ past_name (λ _. Err TooDeep) x (40 ∷ (text u ++ (41 ∷ ys))) m.0 refl
read_deep zero (two x u v) ys m n h =
    ap (reads zero) (text_two x u v ys) ∙ past_name (λ _. Err TooDeep) x (40 ∷ (text u ++ (44 ∷ (text v ++ (41 ∷ ys))))) m.0 refl
read_deep (suc d) (alone x) ys m n h = absurd (omega arith)
read_deep (suc d) (one x u) ys m n h =
    let p = read_deep d u (41 ∷ ys) m.1 (ended_close u ys) (omega arith) in
    ap (reads (suc d)) (text_one x u ys)
    ∙ past_name (opened (parts (reads d))) x (40 ∷ (text u ++ (41 ∷ ys))) m.0 refl
    ∙ ap (λ o. and_then o (followed (reads d))) p
read_deep (suc d) (two x u v) ys m n h =
    ap (reads (suc d)) (text_two x u v ys)
    ∙ past_name (opened (parts (reads d))) x (40 ∷ (text u ++ (44 ∷ (text v ++ (41 ∷ ys))))) m.0 refl
    ∙ ⊎_elim
    (λ l. ap (λ o. and_then o (followed (reads d))) (read_deep d u (44 ∷ (text v ++ (41 ∷ ys))) m.1 (ended_comma u _) l))
    (λ l.
    ap (λ o. and_then o (followed (reads d))) (read_whole d u (44 ∷ (text v ++ (41 ∷ ys))) m.1 (ended_comma u _) l)
    ∙ ap (λ o. and_then o closed) (read_deep d v (41 ∷ ys) m.2 (ended_close v ys) (omega arith)))
    (cases_lt d (depth u))

-- ---- what is read is a lawful build within the levels

-- such a build stands in front of the text xs, and ys is what is left behind it
pub record Front (d : ℕ) (xs ys : List ℕ) : Type 0 where
  pub build : Build
  pub lawful : Lawful build
  pub shallow : depth build ≤ d
  pub ended : Ended build ys
  pub whole : xs ≡ text build ++ ys

-- a reading that Ok has read such a build
abbrev pub Fronts : ℕ → List ℕ → Outcome → Type 0
Fronts d xs (Ok ys) = Front d xs ys
Fronts d xs (Err e) = Unit {0}

abbrev pub AllFronts : ℕ → Type 0
AllFronts d = (ys : List ℕ) → Fronts d ys (reads d ys)

pub front_alone : (d : ℕ) (xs ys : List ℕ) → IsName (name_run xs) → drop (length (name_run xs)) xs ≡ ys → (get_or ys 0 0 ≡ 40 → ⊥) → Front (suc d) xs ys
front_alone d xs ys n e c =
    record {
      build = alone (name_run xs);
      lawful = n;
      shallow = omega arith;
      ended = (ap name_run (sym e) ∙ run_rest xs, c);
      whole = run_split xs ∙ ap (λ l. name_run xs ++ l) e;
    }

pub front_one : (d : ℕ) (x : Name) (xs ys : List ℕ) → IsName x → Front d xs (41 ∷ ys) → Front (suc d) (x ++ (40 ∷ xs)) ys
front_one d x xs ys n f =
    record {
      build = one x f.build;
      lawful = (n, f.lawful);
      shallow = omega (arith, f.shallow);
      ended = tt;
      whole = ap (λ l. x ++ (40 ∷ l)) f.whole ∙ sym (text_one x f.build ys);
    }

pub front_two : (d : ℕ) (x : Name) (xs vs ys : List ℕ) → IsName x → Front d xs (44 ∷ vs) → Front d vs (41 ∷ ys) → Front (suc d) (x ++ (40 ∷ xs)) ys
front_two d x xs vs ys n f g =
    record {
      build = two x f.build g.build;
      lawful = (n, f.lawful, g.lawful);
      shallow = omega arith;
      ended = tt;
      whole = ap (λ l. x ++ (40 ∷ l)) (f.whole ∙ ap (λ l. text f.build ++ (44 ∷ l)) g.whole) ∙ sym (text_two x f.build g.build ys);
    }

pub fronts_two : (d : ℕ) (x : Name) (xs vs : List ℕ) → IsName x → Front d xs (44 ∷ vs) → (o : Outcome) → Fronts d vs o → Fronts (suc d) (x ++ (40 ∷ xs)) (and_then o closed)
fronts_two d x xs vs n f (Err e) g = tt
fronts_two d x xs vs n f (Ok []) g = tt
fronts_two d x xs vs n f (Ok (b ∷ bs)) g =
    elim (eqb b 41) as (λ t. eqb b 41 ≡ t → Fronts (suc d) (x ++ (40 ∷ xs)) (cond t (Ok bs) (Err Broken))) [
      | true ↦ λ q. let P : ℕ → Type 0 = λ k. Front d vs (k ∷ bs) in front_two d x xs vs bs n f (subst P (eqb-true b 41 q) g)
      | false ↦ λ q. tt
    ] refl

pub fronts_one : (d : ℕ) (x : Name) (xs rs : List ℕ) → IsName x → Front d xs rs → Fronts (suc d) (x ++ (40 ∷ xs)) (closed rs)
fronts_one d x xs [] n f = tt
fronts_one d x xs (b ∷ bs) n f =
    elim (eqb b 41) as (λ t. eqb b 41 ≡ t → Fronts (suc d) (x ++ (40 ∷ xs)) (cond t (Ok bs) (Err Broken))) [
      | true ↦ λ q. let P : ℕ → Type 0 = λ k. Front d xs (k ∷ bs) in front_one d x xs bs n (subst P (eqb-true b 41 q) f)
      | false ↦ λ q. tt
    ] refl

pub fronts_followed : (d : ℕ) (x : Name) (xs rs : List ℕ) → IsName x → AllFronts d → Front d xs rs → Fronts (suc d) (x ++ (40 ∷ xs)) (followed (reads d) rs)
fronts_followed d x xs [] n all f = tt
fronts_followed d x xs (b ∷ bs) n all f =
    let P : ℕ → Type 0 = λ k. Front d xs (k ∷ bs) in
    elim (eqb b 44) as (λ t. eqb b 44 ≡ t → Fronts (suc d) (x ++ (40 ∷ xs)) (cond t (and_then (reads d bs) closed) (closed (b ∷ bs)))) [
      | true ↦ λ q. fronts_two d x xs bs n (subst P (eqb-true b 44 q) f) (reads d bs) (all bs)
      | false ↦ λ q. fronts_one d x xs (b ∷ bs) n f
    ] refl

pub fronts_parts : (d : ℕ) (x : Name) (xs : List ℕ) → IsName x → AllFronts d → Fronts (suc d) (x ++ (40 ∷ xs)) (parts (reads d) xs)
fronts_parts d x xs n all =
    elim (reads d xs) as (λ o. Fronts d xs o → Fronts (suc d) (x ++ (40 ∷ xs)) (and_then o (followed (reads d))))
    [ Ok rs ↦ λ f. fronts_followed d x xs rs n all f | Err e ↦ λ f. tt ] (all xs)

pub fronts_opened : (d : ℕ) (xs rs : List ℕ) → IsName (name_run xs) → drop (length (name_run xs)) xs ≡ rs → AllFronts d → Fronts (suc d) xs (opened (parts (reads d)) rs)
fronts_opened d xs [] n e all = front_alone d xs [] n e (λ q. omega arith)
fronts_opened d xs (b ∷ bs) n e all =
    elim (eqb b 40) as (λ t. eqb b 40 ≡ t → Fronts (suc d) xs (cond t (parts (reads d) bs) (Ok (b ∷ bs)))) [
      | true ↦ λ q.
          let w : xs ≡ name_run xs ++ (40 ∷ bs) = run_split xs ∙ ap (λ l. name_run xs ++ l) (e ∙ ap (λ k. k ∷ bs) (eqb-true b 40 q)) in
          let P : List ℕ → Type 0 = λ l. Fronts (suc d) l (parts (reads d) bs) in
          subst P (sym w) (fronts_parts d (name_run xs) bs n all)
      | false ↦ λ q. front_alone d xs (b ∷ bs) n e (eqb-false b 40 q)
    ] refl

-- every reading that Ok has read a lawful build within the levels
pub read_front : (d : ℕ) (xs : List ℕ) → Fronts d xs (reads d xs)
read_front zero xs =
    elim (named? xs) as (λ t. Fronts zero xs (cond t (Err TooDeep) (Err Broken))) [ true ↦ tt | false ↦ tt ]
read_front (suc d) xs =
    elim (named? xs) as (λ t. named? xs ≡ t → Fronts (suc d) xs (cond t (opened (parts (reads d)) (drop (length (name_run xs)) xs)) (Err Broken))) [
      | true ↦ λ q. fronts_opened d xs (drop (length (name_run xs)) xs) (name_from_test xs q) refl (read_front d)
      | false ↦ λ q. tt
    ] refl
