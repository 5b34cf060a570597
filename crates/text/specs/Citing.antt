-- What a fault cites: the bytes of its text from its place on.
--
-- | word        | meaning                                             |
-- |-------------|-----------------------------------------------------|
-- | chosen      | the text that a fault is of                         |
-- | stretch     | the bytes before the first tab or line feed         |
-- | source_word | the word by which a printed fault names its text    |
-- | sources     | the two texts                                       |
use Rattle.std.specs.Prelude.{ℕ, List, [], ◌∷◌, Contains, codes, refl}
use Rattle.std.proofs.Common.{lit<}
use Rattle.text.specs.Scanning.{front, tab_or_feed}
use Rattle.text.specs.declared.refusal.Source.{Source}
use Rattle.text.specs.declared.refusal.Source.TheVariants.{Log, Sheet}

abbrev pub chosen : Source → List ℕ → List ℕ → List ℕ
chosen Log log sheet = log
chosen Sheet log sheet = sheet

abbrev pub stretch : List ℕ → List ℕ
stretch = front tab_or_feed

abbrev pub source_word : Source → List ℕ
source_word Log = codes "LOG"
source_word Sheet = codes "SHEET"

-- all the texts, and that each is one of them
abbrev pub sources : List Source
sources = Log ∷ Sheet ∷ []

pub sources-complete : (s : Source) → Contains sources s
sources-complete Log = (0, lit< tt, refl)
sources-complete Sheet = (1, lit< tt, refl)
