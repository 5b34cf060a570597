-- How a production and an answer of the code are read as those of the theory. Cited by every contract of this crate.
--
-- | word         | meaning                                             |
-- |--------------|-----------------------------------------------------|
-- | plain        | the production, by its numbers                      |
-- | count_answer | how many productions, or the refusal by its number  |
use Rattle.std.specs.Prelude.{ℕ, Ok, Err, Result}
use Rattle.theory.specs.Productions as theory
use Rattle.theory.specs.Calls.{Answer, granted, refused}
use Rattle.text.specs.Causes.{number_of}
use Rattle.text.specs.declared.cause.Layer.{Layer}
use Rattle.listing.specs.declared.production.Production.{Production}

abbrev pub plain : Production → theory.Production
plain p = record { of = p.of; symbol = p.symbol; parts = p.parts; left = p.left; right = p.right }

abbrev pub count_answer : Result ℕ Layer → Answer ℕ
count_answer (Ok n) = granted n
count_answer (Err e) = refused (number_of e)
