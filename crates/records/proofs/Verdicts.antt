-- A line has one verdict: the refusal that comes first is one, at one place, and that place lies in the line.
use Rattle.std.proofs.Common.{◌≡◌, ℕ, ◌+◌, ◌<◌, ◌≤◌, true, false, cond, eqb, List, [], ◌∷◌, length, sym, refl, ap, ◌∙◌, subst, inl, inr, ⊎_elim, arith}
use Rattle.std.proofs.lemmas.Bool.{both_ways, cases_lt}
use Rattle.text.specs.Causes.{number_of}
use Rattle.text.specs.Kinds.{word}
use Rattle.records.specs.Forms.{Unfit, Deep, forms}
use Rattle.records.specs.Fields.{longer, fields}
use Rattle.records.specs.Judging.{longest_line, FirstBad, Leftmost, FieldBreaks, BreaksBehind, Breaks, FirstBreak}
use Rattle.records.specs.Verdicts.{OneVerdict}
use Rattle.records.specs.declared.form.Form.{Form}
use Rattle.text.specs.declared.cause.LineCause.TheVariants.{TextTooLong, LineTooLong, BadByte, UnknownKind, WrongState, WrongCount}
use Rattle.text.specs.declared.cause.FieldCause.TheVariants.{Broken, TooDeep, WrongTotal}
use Rattle.text.specs.declared.cause.BookCause.TheVariants.{NoSymbol, NoNode, ListFull, NamesFull, NodesFull, EquationsFull, NotPriced, TooShort}
use Rattle.text.specs.declared.cause.Layer.{Layer}
use Rattle.text.specs.declared.cause.Layer.TheVariants.{Field, Line, Book}
use Rattle.text.specs.declared.refusal.Refusal.{Refusal}
use Rattle.records.proofs.Heads.{behind}

-- two causes do not have one number
abbrev cause_of : ℕ → Layer
cause_of n =
    cond (eqb n 1) (Book NoSymbol)
    (cond (eqb n 2) (Book NoNode)
    (cond (eqb n 3) (Line TextTooLong)
    (cond (eqb n 4) (Line LineTooLong)
    (cond (eqb n 5) (Line BadByte)
    (cond (eqb n 6) (Line UnknownKind)
    (cond (eqb n 7) (Line WrongState)
    (cond (eqb n 8) (Line WrongCount)
    (cond (eqb n 9) (Field Broken)
    (cond (eqb n 10) (Field TooDeep)
    (cond (eqb n 11) (Field WrongTotal)
    (cond (eqb n 12) (Book ListFull)
    (cond (eqb n 13) (Book NamesFull)
    (cond (eqb n 14) (Book NodesFull)
    (cond (eqb n 15) (Book EquationsFull)
    (cond (eqb n 16) (Book NotPriced) (Book TooShort))))))))))))))))

cause_of_number : (c : Layer) → cause_of (number_of c) ≡ c
cause_of_number (Book NoSymbol) = refl
cause_of_number (Book NoNode) = refl
cause_of_number (Line TextTooLong) = refl
cause_of_number (Line LineTooLong) = refl
cause_of_number (Line BadByte) = refl
cause_of_number (Line UnknownKind) = refl
cause_of_number (Line WrongState) = refl
cause_of_number (Line WrongCount) = refl
cause_of_number (Field Broken) = refl
cause_of_number (Field TooDeep) = refl
cause_of_number (Field WrongTotal) = refl
cause_of_number (Book ListFull) = refl
cause_of_number (Book NamesFull) = refl
cause_of_number (Book NodesFull) = refl
cause_of_number (Book EquationsFull) = refl
cause_of_number (Book NotPriced) = refl
cause_of_number (Book TooShort) = refl

pub one_cause : (c d : Layer) → number_of c ≡ number_of d → c ≡ d
one_cause c d e = sym (cause_of_number c) ∙ ap cause_of e ∙ cause_of_number d

-- of two first bad bytes, neither comes before the other
bad_not_before : (start : ℕ) (xs : List ℕ) (p q : ℕ) (a : FirstBad start xs p) (b : FirstBad start xs q) → b.offset ≤ a.offset
bad_not_before start xs p q a b =
    ⊎_elim (λ h. absurd (both_ways _ a.bad (b.first a.offset h))) (λ h. h) (cases_lt a.offset b.offset)

one_bad_place : (start : ℕ) (xs : List ℕ) (p q : ℕ) → FirstBad start xs p → FirstBad start xs q → p ≡ q
one_bad_place start xs p q a b =
    let h = bad_not_before start xs p q a b in
    let k = bad_not_before start xs q p b a in
    omega (arith, a.placed, b.placed)

one_leftmost : (Bad : Form → List ℕ → Type 0) (ks : List Form) (fs : List (List ℕ)) (at p q : ℕ)
    → Leftmost Bad ks fs at p → Leftmost Bad ks fs at q → p ≡ q
one_leftmost Bad [] fs at p q a b = absurd a
one_leftmost Bad (k ∷ ks) [] at p q a b = absurd a
one_leftmost Bad (k ∷ ks) (f ∷ fs) at p q (inl a) (inl b) = a.1 ∙ sym b.1
one_leftmost Bad (k ∷ ks) (f ∷ fs) at p q (inl a) (inr b) = absurd (b.0 a.0)
one_leftmost Bad (k ∷ ks) (f ∷ fs) at p q (inr a) (inl b) = absurd (a.0 b.0)
one_leftmost Bad (k ∷ ks) (f ∷ fs) at p q (inr a) (inr b) = one_leftmost Bad ks fs (at + length f + 1) p q a.1 b.1

one_field_place : (start : ℕ) (ks : List Form) (fs : List (List ℕ)) (at : ℕ) (c : Layer) (p q : ℕ)
    → FieldBreaks start ks fs at c p → FieldBreaks start ks fs at c q → p ≡ q
one_field_place start ks fs at (Line TextTooLong) p q a b = absurd a
one_field_place start ks fs at (Line LineTooLong) p q a b = absurd a
one_field_place start ks fs at (Line BadByte) p q a b = absurd a
one_field_place start ks fs at (Line UnknownKind) p q a b = absurd a
one_field_place start ks fs at (Line WrongState) p q a b = absurd a
one_field_place start ks fs at (Line WrongCount) p q a b = a.1 ∙ sym b.1
one_field_place start ks fs at (Field Broken) p q a b = one_leftmost Unfit ks fs at p q a.1 b.1
one_field_place start ks fs at (Field TooDeep) p q a b = one_leftmost Deep ks fs at p q a.1 b.1
one_field_place start ks fs at (Field WrongTotal) p q a b = absurd a
one_field_place start ks fs at (Book c) p q a b = absurd a

one_place_behind : (start : ℕ) (xs : List ℕ) (c : Layer) (p q : ℕ) → BreaksBehind start xs c p → BreaksBehind start xs c q → p ≡ q
one_place_behind start xs c p q a b =
    one_field_place start (forms a.0) a.1 _ c p q a.3 (behind start xs a.0 a.1 a.2 c q b)

-- a condition holds at one place only
pub one_place : (start : ℕ) (xs : List ℕ) (c : Layer) (p q : ℕ) → Breaks start xs c p → Breaks start xs c q → p ≡ q
one_place start xs (Line TextTooLong) p q a b = absurd a
one_place start xs (Line LineTooLong) p q a b = a.1 ∙ sym b.1
one_place start xs (Line BadByte) p q a b = one_bad_place start xs p q a b
one_place start xs (Line UnknownKind) p q a b = a.1 ∙ sym b.1
one_place start xs (Line WrongState) p q a b = absurd a
one_place start xs (Line WrongCount) p q a b = one_place_behind start xs (Line WrongCount) p q a b
one_place start xs (Field Broken) p q a b = one_place_behind start xs (Field Broken) p q a b
one_place start xs (Field TooDeep) p q a b = one_place_behind start xs (Field TooDeep) p q a b
one_place start xs (Field WrongTotal) p q a b = absurd a
one_place start xs (Book c) p q a b = absurd a

-- of two first refusals, neither has a lower number than the other
not_lower : (Cond : Layer → ℕ → Type 0) (e f : Refusal) → FirstBreak Cond e → FirstBreak Cond f → number_of f.layer ≤ number_of e.layer
not_lower Cond e f a b =
    ⊎_elim (λ h. absurd (b.first e.layer e.place h a.breaks)) (λ h. h) (cases_lt (number_of e.layer) (number_of f.layer))

one_first_cause : (Cond : Layer → ℕ → Type 0) (e f : Refusal) → FirstBreak Cond e → FirstBreak Cond f → e.layer ≡ f.layer
one_first_cause Cond e f a b =
    let h = not_lower Cond e f a b in
    let k = not_lower Cond f e b a in
    one_cause e.layer f.layer (omega arith)

same_refusal : (e f : Refusal) → e.layer ≡ f.layer → e.place ≡ f.place → e ≡ f
same_refusal e f l p =
    let g : Refusal = record { layer = f.layer; place = e.place } in
    let changed : e ≡ g = ap (λ c. record { layer = c; place = e.place }) l in
    let moved : g ≡ f = ap (λ n. record { layer = f.layer; place = n }) p in
    changed ∙ moved

pub one_first : (start : ℕ) (xs : List ℕ) (e f : Refusal) → FirstBreak (Breaks start xs) e → FirstBreak (Breaks start xs) f → e ≡ f
one_first start xs e f a b =
    let l = one_first_cause (Breaks start xs) e f a b in
    let P : Layer → Type 0 = λ c. Breaks start xs c f.place in
    let p = one_place start xs e.layer e.place f.place a.breaks (subst P (sym l) b.breaks) in
    same_refusal e f l p

-- the bytes of some fields, with one more for each: the tab, or the end, behind it
abbrev total : List (List ℕ) → ℕ
total [] = 0
total (f ∷ fs) = length f + 1 + total fs

total_longer : (b : ℕ) (fs : List (List ℕ)) → 0 < total fs → total (longer b fs) ≡ total fs + 1
total_longer b [] h = omega arith
total_longer b (f ∷ fs) h = omega arith

total_fields : (xs : List ℕ) → total (fields xs) ≡ length xs + 1
total_fields [] = refl
total_fields (b ∷ bs) =
    let h = total_fields bs in
    elim (eqb b 9) as (λ t. total (cond t ([] ∷ fields bs) (longer b (fields bs))) ≡ length (b ∷ bs) + 1)
    [ true ↦ omega arith | false ↦ omega (arith, total_longer b (fields bs) (omega arith)) ]

leftmost_within : (Bad : Form → List ℕ → Type 0) (ks : List Form) (fs : List (List ℕ)) (at place : ℕ)
    → Leftmost Bad ks fs at place → place < at + total fs
leftmost_within Bad [] fs at place b = absurd b
leftmost_within Bad (k ∷ ks) [] at place b = absurd b
leftmost_within Bad (k ∷ ks) (f ∷ fs) at place (inl b) = omega (arith, b.1)
leftmost_within Bad (k ∷ ks) (f ∷ fs) at place (inr b) = omega (arith, leftmost_within Bad ks fs (at + length f + 1) place b.1)

-- the place is the line's first byte, or that of one of the fields
field_place_within : (start : ℕ) (ks : List Form) (fs : List (List ℕ)) (at : ℕ) (c : Layer) (place : ℕ)
    → start < at → FieldBreaks start ks fs at c place → place < at + total fs
field_place_within start ks fs at (Line TextTooLong) place h b = absurd b
field_place_within start ks fs at (Line LineTooLong) place h b = absurd b
field_place_within start ks fs at (Line BadByte) place h b = absurd b
field_place_within start ks fs at (Line UnknownKind) place h b = absurd b
field_place_within start ks fs at (Line WrongState) place h b = absurd b
field_place_within start ks fs at (Line WrongCount) place h b = omega (arith, b.1)
field_place_within start ks fs at (Field Broken) place h b = leftmost_within Unfit ks fs at place b.1
field_place_within start ks fs at (Field TooDeep) place h b = leftmost_within Deep ks fs at place b.1
field_place_within start ks fs at (Field WrongTotal) place h b = absurd b
field_place_within start ks fs at (Book c) place h b = absurd b

place_behind_within : (start : ℕ) (xs : List ℕ) (c : Layer) (place : ℕ) → BreaksBehind start xs c place → place ≤ start + length xs
place_behind_within start xs c place b =
    let whole = ap total b.2 in
    let at = start + length (word b.0) + 1 in
    let h = field_place_within start (forms b.0) b.1 at c place (omega arith) b.3 in
    omega (arith, total_fields xs)

break_within : (start : ℕ) (xs : List ℕ) (c : Layer) (place : ℕ) → Breaks start xs c place → place ≤ start + length xs
break_within start xs (Line TextTooLong) place b = absurd b
break_within start xs (Line LineTooLong) place b = omega (arith, b.1)
break_within start xs (Line BadByte) place b = omega (arith, b.placed, b.within)
break_within start xs (Line UnknownKind) place b = omega (arith, b.1)
break_within start xs (Line WrongState) place b = absurd b
break_within start xs (Line WrongCount) place b = place_behind_within start xs (Line WrongCount) place b
break_within start xs (Field Broken) place b = place_behind_within start xs (Field Broken) place b
break_within start xs (Field TooDeep) place b = place_behind_within start xs (Field TooDeep) place b
break_within start xs (Field WrongTotal) place b = absurd b
break_within start xs (Book c) place b = absurd b

pub place_within : (start : ℕ) (xs : List ℕ) (e : Refusal) → FirstBreak (Breaks start xs) e → e.place ≤ start + length xs
place_within start xs e a = break_within start xs e.layer e.place a.breaks

pub one_verdict_lem : OneVerdict
one_verdict_lem start xs =
    record {
      not_both = λ e a none. none e.layer e.place a.breaks;
      one = one_first start xs;
      within = place_within start xs;
    }

-- no condition of a line has a lower number than that of a line that is too long
lowest : (start : ℕ) (xs : List ℕ) (c : Layer) (place : ℕ) → Breaks start xs c place → number_of (Line LineTooLong) ≤ number_of c
lowest start xs (Line TextTooLong) place b = absurd b
lowest start xs (Line LineTooLong) place b = omega arith
lowest start xs (Line BadByte) place b = omega arith
lowest start xs (Line UnknownKind) place b = omega arith
lowest start xs (Line WrongState) place b = absurd b
lowest start xs (Line WrongCount) place b = omega arith
lowest start xs (Field Broken) place b = omega arith
lowest start xs (Field TooDeep) place b = omega arith
lowest start xs (Field WrongTotal) place b = absurd b
lowest start xs (Book c) place b = absurd b

abbrev too_long : ℕ → Refusal
too_long start = record { layer = Line LineTooLong; place = start }

too_long_first : (start : ℕ) (xs : List ℕ) → longest_line < length xs → FirstBreak (Breaks start xs) (too_long start)
too_long_first start xs h = record { breaks = (h, refl); first = λ c place lt b. omega (arith, lt, lowest start xs c place b) }

-- a line that is too long is refused at its start, and no place lies beyond the end of any other
pub place_short : (xs : List ℕ) (e : Refusal) → FirstBreak (Breaks 0 xs) e → e.place ≤ longest_line
place_short xs e a =
    ⊎_elim
    (λ h. omega (arith, ap (λ (f : Refusal). f.place) (one_first 0 xs e (too_long 0) a (too_long_first 0 xs h))))
    (λ h. omega (arith, place_within 0 xs e a))
    (cases_lt longest_line (length xs))
