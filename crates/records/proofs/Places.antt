-- The fields that are taken off what is left of a line, each at its place.
use Rattle.std.proofs.Common.{◌≡◌, ℕ, ◌+◌, ◌≤◌, ◌==◌, true, false, List, [], ◌∷◌, length, Some, None, Option, Err, Result, sym, refl, ap, ◌∙◌, subst, arith}
use Rattle.std.proofs.lemmas.Bool.{eqb-true}
use Rattle.std.specs.Option.{ok_or}
use Rattle.std.specs.Iterator.{YieldsFirstBy}
use Rattle.records.specs.Fields.{after, placed, seen}
use Rattle.records.specs.declared.field.Field.{Field}
use Rattle.records.specs.declared.field.Rest.{Rest}
use Rattle.text.specs.declared.refusal.Refusal.{Refusal}
use Rattle.records.proofs.Splits.{fields_split}

-- what is left of a line
abbrev pub left : Rest → List (List ℕ × ℕ)
left s = placed (s.at + 1) (after s.bytes.now)

-- the fields with their places tell the fields
one_list : (fs gs : List (List ℕ)) (a b : ℕ) → placed a fs ≡ placed b gs → fs ≡ gs
one_list [] [] a b e = refl
one_list [] (g ∷ gs) a b e = cc
one_list (f ∷ fs) [] a b e = cc
one_list (f ∷ fs) (g ∷ gs) a b e =
    let p : ◌≡◌ {A = List ℕ × ℕ} (f, a) (g, b) = cc in
    let first : f ≡ g = ap (λ (w : List ℕ × ℕ). w.0) p in
    let rest : placed (a + length f + 1) fs ≡ placed (b + length g + 1) gs = cc in
    let others = one_list fs gs _ _ rest in
    cc

-- what is known of a field that is taken, and of two, where `hs` are the fields behind them
pub record Taken (at : ℕ) (fs hs : List (List ℕ)) (f : Field) : Type 0 where
  pub whole : fs ≡ f.bytes.now ∷ hs
  pub placed : f.place ≡ at + 1

pub record TakenTwo (at : ℕ) (fs hs : List (List ℕ)) (f g : Field) : Type 0 where
  pub whole : fs ≡ f.bytes.now ∷ g.bytes.now ∷ hs
  pub placed : f.place ≡ at + 1
  pub next_placed : g.place ≡ at + 1 + length f.bytes.now + 1

-- a field that is taken is the first, and two are the first two
placed_one : (at by : ℕ) (fs hs : List (List ℕ)) (f : Field) → placed (at + 1) fs ≡ seen f ∷ placed by hs → Taken at fs hs f
placed_one at by [] hs f e = cc
placed_one at by (x ∷ fs) hs f e =
    let p : ◌≡◌ {A = List ℕ × ℕ} (x, at + 1) (f.bytes.now, f.place) = cc in
    let a : x ≡ f.bytes.now = ap (λ (w : List ℕ × ℕ). w.0) p in
    let m : at + 1 ≡ f.place = ap (λ (w : List ℕ × ℕ). w.1) p in
    let rest : placed (at + 1 + length x + 1) fs ≡ placed by hs = cc in
    let others = one_list fs hs _ _ rest in
    record { whole = cc; placed = sym m }

placed_two : (at by : ℕ) (fs hs : List (List ℕ)) (f g : Field) → placed (at + 1) fs ≡ seen f ∷ seen g ∷ placed by hs → TakenTwo at fs hs f g
placed_two at by [] hs f g e = cc
placed_two at by (x ∷ fs) hs f g e =
    let p : ◌≡◌ {A = List ℕ × ℕ} (x, at + 1) (f.bytes.now, f.place) = cc in
    let a : x ≡ f.bytes.now = ap (λ (w : List ℕ × ℕ). w.0) p in
    let m : at + 1 ≡ f.place = ap (λ (w : List ℕ × ℕ). w.1) p in
    let rest : placed (at + 1 + length x + 1) fs ≡ seen g ∷ placed by hs = cc in
    let next = placed_one (at + 1 + length x) by fs hs g rest in
    record { whole = rw a (ap (λ r. f.bytes.now ∷ r) next.whole); placed = sym m; next_placed = next.placed ∙ ap (λ w. at + 1 + length w + 1) a }

pub taken : (s t : Rest) (o : Option Field) (f : Field) → o ≡ Some f → YieldsFirstBy seen left s o t
    → Taken s.at (after s.bytes.now) (after t.bytes.now) f
taken s t o f e a = placed_one s.at (t.at + 1) _ _ f (subst (λ x. YieldsFirstBy seen left s x t) e a)

pub taken_two : (s t u : Rest) (o r : Option Field) (f g : Field) → o ≡ Some f → r ≡ Some g
    → YieldsFirstBy seen left s o t → YieldsFirstBy seen left t r u → TakenTwo s.at (after s.bytes.now) (after u.bytes.now) f g
taken_two s t u o r f g e d a b =
    placed_two s.at (u.at + 1) _ _ f g
    (subst (λ x. YieldsFirstBy seen left s x t) e a ∙ ap (λ r. seen f ∷ r) (subst (λ x. YieldsFirstBy seen left t x u) d b))

pub none_taken : (s t : Rest) (o : Option Field) → o ≡ None → YieldsFirstBy seen left s o t → after s.bytes.now ≡ []
none_taken s t o e a = let h = subst (λ x. YieldsFirstBy seen left s x t) e a in one_list _ [] (s.at + 1) 0 h.0

-- what is told where no field is left
pub none_told : (o : Option Field) (w e : Refusal) → o ≡ None → ◌≡◌ {A = Result Field Refusal} (Err e) (ok_or o w) → e ≡ w
none_told o w e n v =
    let P : Option Field → Type 0 = λ x. ◌≡◌ {A = Result Field Refusal} (Err e) (ok_or x w) in
    let q = subst P n v in
    cc

-- fields are left exactly where bytes are
pub none_left : (xs : List ℕ) → true ≡ (length xs == 0) → after xs ≡ []
none_left [] e = refl
none_left (b ∷ bs) e = absurd (let z = eqb-true (length (b ∷ bs)) 0 (sym e) in omega arith)

pub some_left : (xs : List ℕ) → false ≡ (length xs == 0) → 1 ≤ length (after xs)
some_left [] e = cc
some_left (b ∷ bs) e = omega (arith, ap length (fields_split bs))
