-- When a line is refused, with which cause and at which place. Cited by the checks of lines.
--
-- | word       | meaning                                                                          |
-- |------------|----------------------------------------------------------------------------------|
-- | line_byte  | a byte that may stand in a line: a tab, or 33 to 126                             |
-- | FirstBad   | the first byte that may not stand in a line is at that place                     |
-- | Leftmost   | the leftmost field that is bad begins at that place                              |
-- | Breaks     | the condition of a refusal holds of a line, at a place                           |
-- | FirstBreak | a refusal's condition holds, and that of no refusal with a lower number does     |
-- | Unbroken   | no condition of a refusal holds, at any place                                    |
--
-- A line is given as its bytes xs and the place `start` of its first byte in its text. All places are places in the text.
use Rattle.std.specs.Prelude.{◌≡◌, ℕ, ◌+◌, ◌<◌, Bool, true, false, cond, ◌⊎◌, List, [], ◌∷◌, length, ◌==◌, ◌≢◌, nat_le, slice_index}
use Rattle.text.specs.Causes.{number_of}
use Rattle.text.specs.Kinds.{word}
use Rattle.records.specs.Forms.{Unfit, Deep, forms}
use Rattle.records.specs.Fields.{fields}
use Rattle.text.specs.declared.kind.Kind.{Kind}
use Rattle.records.specs.declared.form.Form.{Form}
use Rattle.text.specs.declared.cause.LineCause.TheVariants.{TextTooLong, LineTooLong, BadByte, UnknownKind, WrongState, WrongCount}
use Rattle.text.specs.declared.cause.FieldCause.TheVariants.{Broken, TooDeep, WrongTotal}
use Rattle.text.specs.declared.cause.Layer.{Layer}
use Rattle.text.specs.declared.cause.Layer.TheVariants.{Field, Line, Book}
use Rattle.text.specs.declared.refusal.Refusal.{Refusal}

-- the most bytes that a line may have, its line feed not counted
abbrev pub longest_line : ℕ
longest_line = 256

abbrev pub line_byte : ℕ → Bool
line_byte b = cond (b == 9) true (cond (nat_le 33 b) (nat_le b 126) false)

pub record FirstBad (start : ℕ) (xs : List ℕ) (place : ℕ) : Type 0 where
  pub offset : ℕ
  pub within : offset < length xs
  pub bad : line_byte (slice_index xs offset) ≡ false
  pub first : (k : ℕ) → k < offset → line_byte (slice_index xs k) ≡ true
  pub placed : place ≡ start + offset

-- of the fields, which have these forms, and of which the first begins at `at`
abbrev pub Leftmost : (Form → List ℕ → Type 0) → List Form → List (List ℕ) → ℕ → ℕ → Type 0
Leftmost Bad [] fs at place = ⊥
Leftmost Bad (k ∷ ks) [] at place = ⊥
Leftmost Bad (k ∷ ks) (f ∷ fs) at place =
    (Bad k f × (place ≡ at)) ⊎ ((Bad k f → ⊥) × Leftmost Bad ks fs (at + length f + 1) place)

-- what the fields after the kind word can be refused for; the first of them begins at `at`
abbrev pub FieldBreaks : ℕ → List Form → List (List ℕ) → ℕ → Layer → ℕ → Type 0
FieldBreaks start ks fs at (Line TextTooLong) place = ⊥
FieldBreaks start ks fs at (Line LineTooLong) place = ⊥
FieldBreaks start ks fs at (Line BadByte) place = ⊥
FieldBreaks start ks fs at (Line UnknownKind) place = ⊥
FieldBreaks start ks fs at (Line WrongState) place = ⊥
FieldBreaks start ks fs at (Line WrongCount) place = (length fs ≢ length ks) × (place ≡ start)
FieldBreaks start ks fs at (Field Broken) place = (length fs ≡ length ks) × Leftmost Unfit ks fs at place
FieldBreaks start ks fs at (Field TooDeep) place = (length fs ≡ length ks) × Leftmost Deep ks fs at place
FieldBreaks start ks fs at (Field WrongTotal) place = ⊥
FieldBreaks start ks fs at (Book c) place = ⊥

-- a line of a known kind, whose fields after the kind word break
abbrev pub BreaksBehind : ℕ → List ℕ → Layer → ℕ → Type 0
BreaksBehind start xs c place =
    (k : Kind) × (fs : List (List ℕ)) × (fields xs ≡ word k ∷ fs) × FieldBreaks start (forms k) fs (start + length (word k) + 1) c place

abbrev pub Breaks : ℕ → List ℕ → Layer → ℕ → Type 0
Breaks start xs (Line TextTooLong) place = ⊥
Breaks start xs (Line LineTooLong) place = (longest_line < length xs) × (place ≡ start)
Breaks start xs (Line BadByte) place = FirstBad start xs place
Breaks start xs (Line UnknownKind) place = ((k : Kind) (fs : List (List ℕ)) → fields xs ≢ word k ∷ fs) × (place ≡ start)
Breaks start xs (Line WrongState) place = ⊥
Breaks start xs (Line WrongCount) place = BreaksBehind start xs (Line WrongCount) place
Breaks start xs (Field Broken) place = BreaksBehind start xs (Field Broken) place
Breaks start xs (Field TooDeep) place = BreaksBehind start xs (Field TooDeep) place
Breaks start xs (Field WrongTotal) place = ⊥
Breaks start xs (Book c) place = ⊥

pub record FirstBreak (Cond : Layer → ℕ → Type 0) (e : Refusal) : Type 0 where
  pub breaks : Cond e.layer e.place
  pub first : (c : Layer) (place : ℕ) → number_of c < number_of e.layer → Cond c place → ⊥

abbrev pub Unbroken : (Layer → ℕ → Type 0) → Type 0
Unbroken Cond = (c : Layer) (place : ℕ) → Cond c place → ⊥
