-- The number of each refusal. The one place where a cause gets its number; every promise about a refusal speaks through it.
--
-- | word      | meaning                                                            |
-- |-----------|--------------------------------------------------------------------|
-- | number_of | the refusal number of a cause: 3 to 8 are of the line, 9 to 11 of  |
-- |           | a field, all others of the book; checks run in their order         |
use Rattle.std.specs.Prelude.{ℕ}
use Rattle.text.specs.declared.cause.LineCause.TheVariants.{TextTooLong, LineTooLong, BadByte, UnknownKind, WrongState, WrongCount}
use Rattle.text.specs.declared.cause.FieldCause.TheVariants.{Broken, TooDeep, WrongTotal}
use Rattle.text.specs.declared.cause.BookCause.TheVariants.{NoSymbol, NoNode, ListFull, NamesFull, NodesFull, EquationsFull, NotPriced, TooShort}
use Rattle.text.specs.declared.cause.Layer.{Layer}
use Rattle.text.specs.declared.cause.Layer.TheVariants.{Field, Line, Book}

abbrev pub number_of : Layer → ℕ
number_of (Book NoSymbol) = 1
number_of (Book NoNode) = 2
number_of (Line TextTooLong) = 3
number_of (Line LineTooLong) = 4
number_of (Line BadByte) = 5
number_of (Line UnknownKind) = 6
number_of (Line WrongState) = 7
number_of (Line WrongCount) = 8
number_of (Field Broken) = 9
number_of (Field TooDeep) = 10
number_of (Field WrongTotal) = 11
number_of (Book ListFull) = 12
number_of (Book NamesFull) = 13
number_of (Book NodesFull) = 14
number_of (Book EquationsFull) = 15
number_of (Book NotPriced) = 16
number_of (Book TooShort) = 17
