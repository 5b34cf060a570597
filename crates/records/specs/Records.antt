-- What a granted line says: the record that was read, its fields, their places and what they mean.
--
-- | word    | meaning                                                                       |
-- |---------|-------------------------------------------------------------------------------|
-- | kind_of | the kind of a record's line                                                   |
-- | parts   | the fields of a record's line, the kind word first                            |
-- | Placed  | each field's place is where its bytes stand in the text                       |
-- | Meant   | each field means what its form says: builds, names, numbers with their values |
-- | Reads   | the line says the record                                                      |
-- | Headed  | the line is not too long, has no bad byte, and is of the kind                 |
-- | Granted | the fields behind the word of a kind are those of the record, each in order   |
use Rattle.std.specs.Prelude.{◌≡◌, ℕ, ◌+◌, ◌≤◌, List, [], ◌∷◌, length, drop}
use Rattle.theory.specs.Names.{IsName}
use Rattle.theory.specs.Builds.{IsBuild}
use Rattle.records.specs.Numbers.{IsNumber, value}
use Rattle.text.specs.Kinds.{version, word, rule_word}
use Rattle.records.specs.Forms.{deepest, dearest, forms}
use Rattle.records.specs.Fields.{fields, after}
use Rattle.records.specs.Judging.{longest_line, FirstBad, FieldBreaks, Unbroken}
use Rattle.text.specs.declared.kind.Kind.{Kind}
use Rattle.text.specs.declared.kind.Kind.TheVariants as kind
use Rattle.records.specs.declared.field.Field.{Field}
use Rattle.records.specs.declared.field.Number.{Number}
use Rattle.records.specs.declared.record.Record.{Record}
use Rattle.records.specs.declared.record.Record.TheVariants.{Log, Flex, End, Sheet, Cost, Stock, Pair, Best}

abbrev pub kind_of : Record → Kind
kind_of (Log field) = kind.Log
kind_of (Flex left right) = kind.Flex
kind_of (End count) = kind.End
kind_of (Sheet named rule) = kind.Sheet
kind_of (Cost name price) = kind.Cost
kind_of (Stock name) = kind.Stock
kind_of (Pair left right) = kind.Pair
kind_of (Best build) = kind.Best

abbrev pub parts : Record → List (List ℕ)
parts (Log field) = word kind.Log ∷ field.bytes.now ∷ []
parts (Flex left right) = word kind.Flex ∷ left.bytes.now ∷ right.bytes.now ∷ []
parts (End count) = word kind.End ∷ count.bytes.now ∷ []
parts (Sheet named rule) = word kind.Sheet ∷ named.bytes.now ∷ []
parts (Cost name price) = word kind.Cost ∷ name.bytes.now ∷ price.bytes.now ∷ []
parts (Stock name) = word kind.Stock ∷ name.bytes.now ∷ []
parts (Pair left right) = word kind.Pair ∷ left.bytes.now ∷ right.bytes.now ∷ []
parts (Best build) = word kind.Best ∷ build.bytes.now ∷ []

-- a field's place, where the line begins at `start` and the field behind a word of n bytes, and where behind one more field too
abbrev pub first_place : ℕ → ℕ → ℕ
first_place start n = start + n + 1

abbrev pub second_place : ℕ → ℕ → List ℕ → ℕ
second_place start n first = start + n + 1 + length first + 1

abbrev pub Placed : ℕ → Record → Type 0
Placed start (Log field) = field.place ≡ first_place start 3
Placed start (Flex left right) = (left.place ≡ first_place start 4) × (right.place ≡ second_place start 4 left.bytes.now)
Placed start (End count) = count.place ≡ first_place start 3
Placed start (Sheet named rule) = named.place ≡ first_place start 5
Placed start (Cost name price) = (name.place ≡ first_place start 4) × (price.place ≡ second_place start 4 name.bytes.now)
Placed start (Stock name) = name.place ≡ first_place start 5
Placed start (Pair left right) = (left.place ≡ first_place start 4) × (right.place ≡ second_place start 4 left.bytes.now)
Placed start (Best build) = build.place ≡ first_place start 4

abbrev pub BuildIn : Field → Type 0
BuildIn f = IsBuild deepest f.bytes.now

abbrev pub NumberIn : Number → Type 0
NumberIn n = IsNumber n.bytes.now × (n.value ≡ value n.bytes.now)

abbrev pub Meant : Record → Type 0
Meant (Log field) = field.bytes.now ≡ version
Meant (Flex left right) = BuildIn left × BuildIn right
Meant (End count) = NumberIn count
Meant (Sheet named rule) = named.bytes.now ≡ rule_word rule
Meant (Cost name price) = IsName name.bytes.now × NumberIn price × (price.value ≤ dearest)
Meant (Stock name) = IsName name.bytes.now
Meant (Pair left right) = BuildIn left × BuildIn right
Meant (Best build) = BuildIn build

-- the bytes xs of a line that begins at `start` of its text say the record r
pub record Reads (start : ℕ) (xs : List ℕ) (r : Record) : Type 0 where
  pub whole : fields xs ≡ parts r
  pub placed : Placed start r
  pub meant : Meant r

pub record Headed (start : ℕ) (xs : List ℕ) (k : Kind) : Type 0 where
  pub short : length xs ≤ longest_line
  pub clean : (place : ℕ) → FirstBad start xs place → ⊥
  pub within : length (word k) ≤ length xs
  pub headed : fields xs ≡ word k ∷ after (drop (length (word k)) xs)

pub record Granted (start : ℕ) (k : Kind) (fs : List (List ℕ)) (r : Record) : Type 0 where
  pub whole : word k ∷ fs ≡ parts r
  pub placed : Placed start r
  pub meant : Meant r
  pub unbroken : Unbroken (FieldBreaks start (forms k) fs (start + length (word k) + 1))
