-- Stretches of bytes: what stands before the first byte that a test stops at.
--
-- | word        | meaning                                          |
-- |-------------|--------------------------------------------------|
-- | Computes    | whatever the test answers of a byte is p of it   |
-- | tab         | the byte is a tab                                |
-- | feed        | the byte is a line feed                          |
-- | tab_or_feed | the byte is one of the two                       |
-- | stops       | the byte stops a stretch                         |
-- | front       | the bytes before the first that passes p         |
use Rattle.std.specs.Prelude.{◌≡◌, ℕ, Bool, true, cond, not, List, [], ◌∷◌, ◌==◌}
use Rattle.theory.specs.Names.{name_byte}
use Rattle.text.specs.declared.scan.Stop.{Stop}
use Rattle.text.specs.declared.scan.Stop.TheVariants.{Tab, Feed, TabOrFeed, NameEnd}

abbrev pub Computes : (ℕ → Bool → Type 0) → (ℕ → Bool) → Type 0
Computes answers p = (b : ℕ) (r : Bool) → answers b r → r ≡ p b

-- 9 is a tab, 10 a line feed
abbrev pub tab : ℕ → Bool
tab b = b == 9

abbrev pub feed : ℕ → Bool
feed b = b == 10

abbrev pub tab_or_feed : ℕ → Bool
tab_or_feed b = cond (tab b) true (feed b)

abbrev pub stops : Stop → ℕ → Bool
stops Tab b = tab b
stops Feed b = feed b
stops TabOrFeed b = tab_or_feed b
stops NameEnd b = not (name_byte b)

abbrev pub front : (ℕ → Bool) → List ℕ → List ℕ
front p [] = []
front p (b ∷ bs) = cond (p b) [] (b ∷ front p bs)
