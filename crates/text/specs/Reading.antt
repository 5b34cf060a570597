-- The reading of a build from left to right. Cited by the contracts of the readers of builds.
--
-- | word     | meaning                                                                        |
-- |----------|--------------------------------------------------------------------------------|
-- | Outcome  | what is left behind what was read, or why the reading failed                   |
-- | and_then | goes on with what is left, unless the reading failed                           |
-- | named?   | the name bytes in front of the text are a lawful name                          |
-- | named    | reads a name, and then what comes behind it                                    |
-- | opened   | reads what stands in brackets where one opens, and nothing where none does     |
-- | closed   | reads a close bracket                                                          |
-- | followed | reads what stands behind a first part: a comma and a second part where a comma |
-- |          | stands, and then a close bracket                                               |
-- | parts    | reads one part or two, and the close bracket                                   |
-- | reads    | reads a build, of so many levels at most                                       |
-- | verdict  | the answer for a text that is to be read to its end                            |
use Rattle.std.specs.Prelude.{ℕ, zero, suc, Bool, false, cond, List, [], ◌∷◌, length, drop, Ok, Err, Result, ◌==◌, nat_le, slice_index}
use Rattle.theory.specs.Names.{letter}
use Rattle.theory.specs.Fronts.{name_run}
use Rattle.text.specs.declared.build.BuildFault.{BuildFault}
use Rattle.text.specs.declared.build.BuildFault.TheVariants.{Broken, TooDeep}

abbrev pub Outcome : Type 0
Outcome = Result (List ℕ) BuildFault

abbrev pub and_then : Outcome → (List ℕ → Outcome) → Outcome
and_then (Ok ys) next = next ys
and_then (Err e) next = Err e

abbrev pub named? : List ℕ → Bool
named? xs =
    cond (nat_le 1 (length (name_run xs))) (cond (nat_le (length (name_run xs)) 12) (letter (slice_index xs 0)) false) false

abbrev pub named : (List ℕ → Outcome) → List ℕ → Outcome
named next xs = cond (named? xs) (next (drop (length (name_run xs)) xs)) (Err Broken)

-- 40 is an open bracket, 44 a comma, 41 a close bracket
abbrev pub opened : (List ℕ → Outcome) → List ℕ → Outcome
opened inner [] = Ok []
opened inner (b ∷ bs) = cond (b == 40) (inner bs) (Ok (b ∷ bs))

abbrev pub closed : List ℕ → Outcome
closed [] = Err Broken
closed (b ∷ bs) = cond (b == 41) (Ok bs) (Err Broken)

abbrev pub followed : (List ℕ → Outcome) → List ℕ → Outcome
followed part [] = closed []
followed part (b ∷ bs) = cond (b == 44) (and_then (part bs) closed) (closed (b ∷ bs))

abbrev pub parts : (List ℕ → Outcome) → List ℕ → Outcome
parts part xs = and_then (part xs) (followed part)

-- a name is read before its level is counted: what is no name is broken at every depth
abbrev pub reads : ℕ → List ℕ → Outcome
reads zero xs = named (λ _. Err TooDeep) xs
reads (suc levels) xs = named (opened (parts (reads levels))) xs

abbrev pub verdict : Outcome → Result (Unit {0}) BuildFault
verdict (Ok []) = Ok tt
verdict (Ok (b ∷ bs)) = Err Broken
verdict (Err e) = Err e
