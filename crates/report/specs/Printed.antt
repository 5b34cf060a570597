-- What is printed of a line that was read, of a fault and at the end. Cited by the calls that print them.
--
-- | word         | meaning                                                                          |
-- |--------------|----------------------------------------------------------------------------------|
-- | visible      | the byte as it is printed: itself from 33 to 126, else a question mark           |
-- | quoted       | cited bytes as they are printed: the first 256 of them, each made visible        |
-- | fault_fields | FAULT, the text, the line, the number, the place, and the cited bytes if any     |
-- | line_fields  | the text, the line, the kind and the fields as read                              |
-- | total_fields | LINES and how many, FAULTS and how many                                          |
use Rattle.std.specs.Prelude.{ℕ, cond, List, [], ◌∷◌, map, take, codes, decimal, nat_le}
use Rattle.text.specs.Citing.{source_word}
use Rattle.records.specs.Records.{parts}
use Rattle.text.specs.declared.fault.Fault.{Fault}
use Rattle.records.specs.declared.record.Record.{Record}
use Rattle.records.specs.declared.lines.TextLine.{TextLine}

abbrev pub visible : ℕ → ℕ
visible b = cond (nat_le 33 b) (cond (nat_le b 126) b 63) 63

abbrev pub quoted : List ℕ → List ℕ
quoted bs = map visible (take 256 bs)

-- a field that is printed only if it has bytes
abbrev pub if_any : List ℕ → List (List ℕ)
if_any [] = []
if_any (b ∷ bs) = (b ∷ bs) ∷ []

abbrev pub fault_fields : Fault → List ℕ → List (List ℕ)
fault_fields f cited =
    codes "FAULT" ∷ source_word f.source ∷ decimal f.line ∷ decimal f.number ∷ decimal f.place ∷ if_any (quoted cited)

abbrev pub line_fields : TextLine → Record → List (List ℕ)
line_fields l r = source_word l.source ∷ decimal l.number ∷ parts r

abbrev pub total_fields : ℕ → ℕ → List (List ℕ)
total_fields lines faults = codes "LINES" ∷ decimal lines ∷ codes "FAULTS" ∷ decimal faults ∷ []
