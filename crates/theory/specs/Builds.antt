-- Builds: what they are, their text, their depth. Cited by every contract that speaks of a build.
--
-- | word     | meaning                                                            |
-- |----------|--------------------------------------------------------------------|
-- | Build    | a name alone, over one part, or over two parts; each part a build  |
-- | text     | the bytes that a build is written in                               |
-- | depth    | how many names stand above one another; a name alone is 1          |
-- | Lawful   | every name in the build is a lawful name                           |
-- | IsBuild  | the bytes are the text of a lawful build of that depth at most     |
use Rattle.std.specs.Prelude.{◌≡◌, ℕ, ◌+◌, ◌≤◌, max, List, [], ◌∷◌, ◌++◌}
use Rattle.theory.specs.Names.{Name, IsName}

-- one name alone, over one part and over two parts makes three unrelated builds
pub data Build : Type 0 where
  alone : Name → Build
  one : Name → Build → Build
  two : Name → Build → Build → Build

-- 40 is an open bracket, 44 a comma, 41 a close bracket
abbrev pub text : Build → List ℕ
text (alone x) = x
text (one x u) = x ++ (40 ∷ (text u ++ (41 ∷ [])))
text (two x u v) = x ++ (40 ∷ (text u ++ (44 ∷ (text v ++ (41 ∷ [])))))

abbrev pub depth : Build → ℕ
depth (alone x) = 1
depth (one x u) = 1 + depth u
depth (two x u v) = 1 + max (depth u) (depth v)

abbrev pub Lawful : Build → Type 0
Lawful (alone x) = IsName x
Lawful (one x u) = IsName x × Lawful u
Lawful (two x u v) = IsName x × Lawful u × Lawful v

pub record IsBuild (levels : ℕ) (bs : List ℕ) : Type 0 where
  pub build : Build
  pub lawful : Lawful build
  pub shallow : depth build ≤ levels
  pub whole : text build ≡ bs
