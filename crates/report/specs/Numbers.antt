-- Numbers as the fields of a row. Cited by the contracts of Digits, beside the `decimal` of the standard library.
--
-- | word  | meaning                                                 |
-- |-------|---------------------------------------------------------|
-- | shown | the digits that are held, from where they start onwards |
use Rattle.std.specs.Prelude.{ℕ, List, drop}
use Rattle.report.specs.declared.decimal.Digits.{Digits}

abbrev pub shown : Digits → List ℕ
shown d = drop d.start d.bytes
