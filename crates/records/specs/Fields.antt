-- The fields of a line, parted at tabs.
--
-- | word   | meaning                                                                  |
-- |--------|--------------------------------------------------------------------------|
-- | field  | the bytes before the first tab                                           |
-- | fields | all the fields of a line: one more than it has tabs                      |
-- | after  | the fields behind the tab that the bytes begin with; none at the end     |
-- | placed | the fields, each with its place                                          |
-- | seen   | the bytes and the place of a field                                       |
-- | One    | some fields are one field of a form, at its place                        |
-- | Two    | some fields are two fields of two forms, each at its place               |
use Rattle.std.specs.Prelude.{◌≡◌, ℕ, ◌+◌, cond, List, [], ◌∷◌, length, ◌==◌}
use Rattle.records.specs.Forms.{Fits, Deep}
use Rattle.text.specs.Scanning.{front, tab}
use Rattle.text.specs.declared.cause.Layer.TheVariants as layer
use Rattle.text.specs.declared.cause.FieldCause.{FieldCause}
use Rattle.text.specs.declared.cause.LineCause.TheVariants.{WrongCount}
use Rattle.records.specs.declared.field.Field.{Field}
use Rattle.records.specs.declared.form.Form.{Form}
use Rattle.text.specs.declared.refusal.Refusal.{Refusal}

abbrev pub field : List ℕ → List ℕ
field = front tab

-- one more byte in front of the first field
abbrev pub longer : ℕ → List (List ℕ) → List (List ℕ)
longer b [] = (b ∷ []) ∷ []
longer b (f ∷ fs) = (b ∷ f) ∷ fs

abbrev pub fields : List ℕ → List (List ℕ)
fields [] = [] ∷ []
fields (b ∷ bs) = cond (b == 9) ([] ∷ fields bs) (longer b (fields bs))

abbrev pub after : List ℕ → List (List ℕ)
after [] = []
after (b ∷ bs) = fields bs

-- the first field begins at `at`, and one byte parts two of them
abbrev pub placed : ℕ → List (List ℕ) → List (List ℕ × ℕ)
placed at [] = []
placed at (f ∷ fs) = (f, at) ∷ placed (at + length f + 1) fs

abbrev pub seen : Field → List ℕ × ℕ
seen f = (f.bytes.now, f.place)

-- the fields stand behind a tab that is at the place `at` of the text
pub record One (at : ℕ) (form : Form) (fs : List (List ℕ)) (f : Field) : Type 0 where
  pub all : fs ≡ f.bytes.now ∷ []
  pub placed : f.place ≡ at + 1
  pub fit : Fits form f.bytes.now
  pub shallow : Deep form f.bytes.now → ⊥

pub record Two (at : ℕ) (left right : Form) (fs : List (List ℕ)) (f g : Field) : Type 0 where
  pub all : fs ≡ f.bytes.now ∷ g.bytes.now ∷ []
  pub placed : f.place ≡ at + 1
  pub next_placed : g.place ≡ at + 1 + length f.bytes.now + 1
  pub fit : Fits left f.bytes.now
  pub next_fit : Fits right g.bytes.now
  pub shallow : Deep left f.bytes.now → ⊥
  pub next_shallow : Deep right g.bytes.now → ⊥

-- the refusal of a field that begins at `place`
abbrev pub field_refusal : FieldCause → ℕ → Refusal
field_refusal c place = record { layer = layer.Field c; place = place }

-- the refusal of a line that begins at `start` and has too few or too many fields
abbrev pub wrong_count : ℕ → Refusal
wrong_count start = record { layer = layer.Line WrongCount; place = start }
