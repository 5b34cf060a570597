-- An answer as one number. Cited by what `Told` prints.
--
-- | word | meaning                                        |
-- |------|------------------------------------------------|
-- | told | the number that is answered, or the refusal's  |
use Rattle.std.specs.Prelude.{ℕ, Ok, Err, Result}
use Rattle.text.specs.Causes.{number_of}
use Rattle.text.specs.declared.cause.Layer.{Layer}

abbrev pub told : Result ℕ Layer → ℕ
told (Ok n) = n
told (Err e) = number_of e
