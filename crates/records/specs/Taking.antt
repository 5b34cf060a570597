-- Taking lines off a text, one at a time. Cited by the iterator over the lines of a text.
--
-- | word     | meaning                                                                          |
-- |----------|----------------------------------------------------------------------------------|
-- | left     | the lines that are still to come                                                 |
-- | NextLine | the first of the lines left is taken, with its text, place and number; or none   |
-- |          | is left                                                                          |
use Rattle.std.specs.Prelude.{◌≡◌, ℕ, ◌+◌, List, [], ◌∷◌, drop, Option, IfNone, IfSome}
use Rattle.records.specs.Lines.{lines}
use Rattle.records.specs.declared.lines.Lines.{Lines}
use Rattle.records.specs.declared.lines.TextLine.{TextLine}

abbrev pub left : Lines → List (List ℕ)
left s = lines (drop s.at s.text.now)

pub record NextLine (s : Lines) (r : Option TextLine) (t : Lines) : Type 0 where
  pub text : t.text.now ≡ s.text.now
  pub source : t.source ≡ s.source
  pub none : IfNone r ((left s ≡ []) × (t.at ≡ s.at) × (t.number ≡ s.number))
  pub next : IfSome r (λ l. left s ≡ l.bytes.now ∷ left t)
  pub line : IfSome r (λ l. (l.source ≡ s.source) × (l.place ≡ s.at) × (l.number ≡ s.number + 1) × (t.number ≡ s.number + 1))
