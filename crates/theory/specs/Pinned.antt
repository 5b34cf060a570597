-- The relations of the calls leave nothing open. Cited by the function that stands for this theorem.
--
-- | word       | meaning                                                                       |
-- |------------|-------------------------------------------------------------------------------|
-- | SameEnd    | one answer, and one state after                                               |
-- | Pinned     | of a book and the arguments of a call there is one answer and one state       |
-- | PinnedLent | the same of the calls that are lent memory, and one content of it after       |
use Rattle.std.specs.Prelude.{◌≡◌, ℕ, Bool, List}
use Rattle.theory.specs.Names.{Name}
use Rattle.theory.specs.Costs.{Cheaper}
use Rattle.theory.specs.Books.{Node, State, Book}
use Rattle.theory.specs.Calls.{Answer, Naming, Entering, Equating, Sameness, Classing, Pricing, Spelling, Listing}
use Rattle.theory.specs.Productions.{Production}

abbrev pub SameEnd : {A : Type 0} → Answer A → State → Answer A → State → Type 0
SameEnd w t w' t' = (w ≡ w') × (t ≡ t')

pub record Pinned : Type 0 where
  pub naming : (s : State) → Book s → (bs : Name) (w w' : Answer ℕ) (t t' : State)
      → Naming s bs w t → Naming s bs w' t' → SameEnd w t w' t'
  pub entering : (s : State) → Book s → (x : Node) (w w' : Answer ℕ) (t t' : State)
      → Entering s x w t → Entering s x w' t' → SameEnd w t w' t'
  pub equating : (s : State) → Book s → (a b : ℕ) (w w' : Answer ℕ) (t t' : State)
      → Equating s a b w t → Equating s a b w' t' → SameEnd w t w' t'
  pub sameness : (s : State) → Book s → (a b : ℕ) (w w' : Answer Bool) (t t' : State)
      → Sameness s a b w t → Sameness s a b w' t' → SameEnd w t w' t'
  pub classing : (s : State) → Book s → (n : ℕ) (w w' : Answer ℕ) (t t' : State)
      → Classing s n w t → Classing s n w' t' → SameEnd w t w' t'

pub record PinnedLent : Type 0 where
  pub pricing : (s : State) → Book s → (cheaper : Cheaper) (costs waiting : ℕ) (w w' : Answer (Unit {0})) (t t' : State)
      → Pricing s cheaper costs waiting w t → Pricing s cheaper costs waiting w' t' → SameEnd w t w' t'
  pub spelling : (s : State) → Book s → (n : ℕ) (before : List ℕ) (w w' : Answer ℕ) (after after' : List ℕ) (t t' : State)
      → Spelling s n before w after t → Spelling s n before w' after' t' → SameEnd w t w' t' × (after ≡ after')
  pub listing : (s : State) → Book s → (n marking : ℕ) (before : List Production) (w w' : Answer ℕ) (after after' : List Production)
      (marks marks' : List ℕ) (t t' : State)
      → Listing s n marking before w after marks t → Listing s n marking before w' after' marks' t'
      → SameEnd w t w' t' × (after ≡ after') × (marks ≡ marks')
