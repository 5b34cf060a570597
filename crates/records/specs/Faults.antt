-- Faults: a refusal with its text and its line.
--
-- | word    | meaning                                                                    |
-- |---------|----------------------------------------------------------------------------|
-- | TooLong | the fault of a whole text: line and place are 0                            |
-- | Told    | the fault tells the first refusal of a line, by the line's text and number |
-- | Coded   | the answer of the C call: 65,536 times the number, plus the place, or 0    |
use Rattle.std.specs.Prelude.{◌≡◌, ℕ, ◌+◌, ◌*◌, ◌⊎◌, List}
use Rattle.text.specs.Causes.{number_of}
use Rattle.records.specs.Judging.{Breaks, FirstBreak, Unbroken}
use Rattle.text.specs.declared.cause.LineCause.TheVariants.{TextTooLong}
use Rattle.text.specs.declared.cause.Layer.{Layer}
use Rattle.text.specs.declared.cause.Layer.TheVariants.{Line}
use Rattle.text.specs.declared.fault.Fault.{Fault}
use Rattle.text.specs.declared.refusal.Refusal.{Refusal}
use Rattle.text.specs.declared.refusal.Source.{Source}

pub record TooLong (source : Source) (f : Fault) : Type 0 where
  pub of : f.source ≡ source
  pub line : f.line ≡ 0
  pub place : f.place ≡ 0
  pub layer : f.layer ≡ Line TextTooLong
  pub number : f.number ≡ number_of f.layer

-- what a fault says of the line itself
abbrev pub refusal_in : Fault → Refusal
refusal_in f = record { layer = f.layer; place = f.place }

pub record Told (source : Source) (line_number : ℕ) (Cond : Layer → ℕ → Type 0) (f : Fault) : Type 0 where
  pub of : f.source ≡ source
  pub line : f.line ≡ line_number
  pub first : FirstBreak Cond (refusal_in f)
  pub number : f.number ≡ number_of f.layer

abbrev pub Coded : List ℕ → ℕ → Type 0
Coded xs r =
    (Unbroken (Breaks 0 xs) × (r ≡ 0)) ⊎ ((e : Refusal) × FirstBreak (Breaks 0 xs) e × (r ≡ 65536 * number_of e.layer + e.place))
