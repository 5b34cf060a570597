-- Naming and then entering, as one call. Cited by the contract of `put`.
--
-- | word    | meaning                                                                                                    |
-- |---------|------------------------------------------------------------------------------------------------------------|
-- | Putting | from bytes and nodes to the node of that build: the name is named, and then its symbol entered over them    |
use Rattle.std.specs.Prelude.{◌≡◌, ℕ}
use Rattle.theory.specs.Names.{Name}
use Rattle.theory.specs.Books.{State}
use Rattle.theory.specs.Calls.{Answer, granted, refused, Naming, Entering}
use Rattle.book.specs.declared.id.Parts.{Parts}
use Rattle.book.specs.Entering.{asked}

pub data Putting (s : State) (bs : Name) (parts : Parts) (answer : Answer ℕ) (t : State) : Type 0 where
  -- the name is refused, and nothing is entered
  unnamed : (n : ℕ) → Naming s bs (refused n) t → answer ≡ refused n → Putting s bs parts answer t
  -- the answer is that of the entering, from the state m that the naming leaves
  named : (k : ℕ) (m : State) → Naming s bs (granted k) m → Entering m (asked k parts) answer t → Putting s bs parts answer t
