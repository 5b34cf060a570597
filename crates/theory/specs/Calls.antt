-- What each call on a book does: the state s before, the arguments, the answer, the state t after. The promise of each call of a
-- book is its relation here. A case is one way the call can end, the refusals in the order of the checks.
--
-- | word          | meaning                                                                                     |
-- |---------------|---------------------------------------------------------------------------------------------|
-- | Answer        | a call is granted with a value, or refused with a number                                    |
-- | Naming        | from bytes to the symbol of that name: the known one, or else the next                      |
-- | Entering      | from a symbol over nodes to the node of that build: the known one, or else the next         |
-- | Equating      | two nodes are said to be equal; the answer is the number of the equation                    |
-- | Sameness      | whether the builds of two nodes are equal by the book's equations                           |
-- | Classing      | the class of a node: the lowest node whose build is equal to its own                        |
-- | Pricing       | classes are settled in stages; afterwards each node has the choice of its class             |
-- | Spelling      | the text of the build spelled for a node, written into a buffer                             |
-- | Listing       | the productions that are reached from a node's class, written into an output                |
-- | UnknownName   | no symbol has the name                                                                      |
-- | UnknownBuild  | no node has the build                                                                       |
-- | Proper        | the symbol and the parts are the book's                                                     |
-- | Both          | both are nodes                                                                              |
use Rattle.std.specs.Prelude.{◌≡◌, ℕ, ◌<◌, ◌≤◌, Bool, true, false, ◌⊎◌, List, ◌++◌, length, drop, replicate}
use Rattle.theory.specs.Names.{Name, IsName}
use Rattle.theory.specs.Builds.{Build, text}
use Rattle.theory.specs.Costs.{Cheaper}
use Rattle.theory.specs.Books.{
  Node,
  symbol,
  Parts,
  State,
  Book,
  Chosen,
  Lowest,
  Alike,
  IsSymbol,
  IsNode,
  build,
  node_build,
  name_at,
  with_name,
  with_node,
  with_equation,
  with_choices,
}
use Rattle.theory.specs.Spelling.{Spelled}
use Rattle.theory.specs.Productions.{Production, Listed}

pub data Answer (A : Type 0) : Type 0 where
  granted : A → Answer A
  refused : ℕ → Answer A

abbrev pub UnknownName : State → Name → Type 0
UnknownName s bs = (k : ℕ) → IsSymbol s k → ¬ (name_at s k ≡ bs)

pub data Naming (s : State) (bs : Name) (answer : Answer ℕ) (t : State) : Type 0 where
  ill_formed : ¬ IsName bs → answer ≡ refused 9 → t ≡ s → Naming s bs answer t
  known : IsName bs → (k : ℕ) → IsSymbol s k → name_at s k ≡ bs → answer ≡ granted k → t ≡ s → Naming s bs answer t
  full : IsName bs → UnknownName s bs → s.room ≤ length s.names → answer ≡ refused 13 → t ≡ s → Naming s bs answer t
  -- the new name is the last; a pricing in force stands
  new : IsName bs → UnknownName s bs → length s.names < s.room → answer ≡ granted (length s.names) → t ≡ with_name s bs
      → Naming s bs answer t

abbrev pub UnknownBuild : State → Build → Type 0
UnknownBuild s u = (k : ℕ) → IsNode s k → ¬ (build s k ≡ u)

pub record Proper (s : State) (x : Node) : Type 0 where
  pub named : IsSymbol s (symbol x)
  pub parts : Parts (IsNode s) x

pub data Entering (s : State) (x : Node) (answer : Answer ℕ) (t : State) : Type 0 where
  no_symbol : ¬ IsSymbol s (symbol x) → answer ≡ refused 1 → t ≡ s → Entering s x answer t
  no_part : IsSymbol s (symbol x) → ¬ Parts (IsNode s) x → answer ≡ refused 2 → t ≡ s → Entering s x answer t
  known : Proper s x → (k : ℕ) → IsNode s k → build s k ≡ node_build s x → answer ≡ granted k → t ≡ s → Entering s x answer t
  full : Proper s x → UnknownBuild s (node_build s x) → s.room ≤ length s.nodes → answer ≡ refused 14 → t ≡ s
      → Entering s x answer t
  -- the new node is the last, of the class k that makes it a book again; a pricing in force is ended
  new : Proper s x → UnknownBuild s (node_build s x) → length s.nodes < s.room → answer ≡ granted (length s.nodes)
      → (k : ℕ) → t ≡ with_node s x k → Book t → Entering s x answer t

abbrev pub Both : State → ℕ → ℕ → Type 0
Both s a b = IsNode s a × IsNode s b

pub data Equating (s : State) (a b : ℕ) (answer : Answer ℕ) (t : State) : Type 0 where
  no_node : ¬ Both s a b → answer ≡ refused 2 → t ≡ s → Equating s a b answer t
  full : Both s a b → s.room ≤ length s.equated → answer ≡ refused 15 → t ≡ s → Equating s a b answer t
  -- the new equation is the last; the classes are those that make it a book again; a pricing in force is ended
  accepted : Both s a b → length s.equated < s.room → answer ≡ granted (length s.equated)
      → (ks : List ℕ) → t ≡ with_equation s a b ks → Book t → Equating s a b answer t

pub data Sameness (s : State) (a b : ℕ) (answer : Answer Bool) (t : State) : Type 0 where
  no_node : ¬ Both s a b → answer ≡ refused 2 → t ≡ s → Sameness s a b answer t
  same : Both s a b → Alike s a b → answer ≡ granted true → t ≡ s → Sameness s a b answer t
  different : Both s a b → ¬ Alike s a b → answer ≡ granted false → t ≡ s → Sameness s a b answer t

pub data Classing (s : State) (n : ℕ) (answer : Answer ℕ) (t : State) : Type 0 where
  no_node : ¬ IsNode s n → answer ≡ refused 2 → t ≡ s → Classing s n answer t
  classed : IsNode s n → (k : ℕ) → Lowest s n k → answer ≡ granted k → t ≡ s → Classing s n answer t

-- by a rule that says `cheaper` of builds, with a cost table and a waiting table of so many rows
pub data Pricing (s : State) (cheaper : Cheaper) (costs waiting : ℕ) (answer : Answer (Unit {0})) (t : State) : Type 0 where
  -- a pricing in force stands
  short : (costs < length s.nodes) ⊎ (waiting < length s.nodes) → answer ≡ refused 17 → t ≡ s
      → Pricing s cheaper costs waiting answer t
  -- the new pricing replaces the one in force
  settled : length s.nodes ≤ costs → length s.nodes ≤ waiting → answer ≡ granted tt
      → (cs : List ℕ) → Chosen s cheaper cs → t ≡ with_choices s cs → Pricing s cheaper costs waiting answer t

-- into a buffer that holds `before`, and `after` afterwards; the answer is the length of the text
pub data Spelling (s : State) (n : ℕ) (before : List ℕ) (answer : Answer ℕ) (after : List ℕ) (t : State) : Type 0 where
  no_node : ¬ IsNode s n → answer ≡ refused 2 → after ≡ before → t ≡ s → Spelling s n before answer after t
  unpriced : IsNode s n → s.priced ≡ false → answer ≡ refused 16 → after ≡ before → t ≡ s → Spelling s n before answer after t
  too_long : IsNode s n → s.priced ≡ true → (u : Build) → Spelled s n u → length before < length (text u)
      → answer ≡ refused 17 → after ≡ before → t ≡ s → Spelling s n before answer after t
  written : IsNode s n → s.priced ≡ true → (u : Build) → Spelled s n u → length (text u) ≤ length before
      → answer ≡ granted (length (text u)) → after ≡ text u ++ drop (length (text u)) before → t ≡ s
      → Spelling s n before answer after t

-- with so many marking bytes, which end as `marks`, into an output that holds `before`, and `after` afterwards
pub data Listing (s : State) (n marking : ℕ) (before : List Production) (answer : Answer ℕ) (after : List Production) (marks : List ℕ)
    (t : State) : Type 0 where
  no_node : ¬ IsNode s n → answer ≡ refused 2 → after ≡ before → marks ≡ replicate marking 0 → t ≡ s
      → Listing s n marking before answer after marks t
  short : IsNode s n → marking < length s.nodes → answer ≡ refused 17 → after ≡ before → marks ≡ replicate marking 0 → t ≡ s
      → Listing s n marking before answer after marks t
  too_long : IsNode s n → length s.nodes ≤ marking → (ps : List Production) → Listed s n ps → length before < length ps
      → answer ≡ refused 17 → after ≡ before → marks ≡ replicate marking 0 → t ≡ s → Listing s n marking before answer after marks t
  written : IsNode s n → length s.nodes ≤ marking → (ps : List Production) → Listed s n ps → length ps ≤ length before
      → answer ≡ granted (length ps) → after ≡ ps ++ drop (length ps) before → marks ≡ replicate marking 0 → t ≡ s
      → Listing s n marking before answer after marks t
