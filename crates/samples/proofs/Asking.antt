-- A call's result is granted exactly when its answer is.
use Rattle.std.proofs.Common.{◌≡◌, ℕ, Bool, refl, Option, Some, Result, Ok, Err, is_ok, sym, subst, ◌∙◌}
use Rattle.theory.specs.Names.{Name}
use Rattle.theory.specs.Books.{State, Node}
use Rattle.theory.specs.Calls.{Naming, Entering, Equating}
use Rattle.text.specs.declared.cause.Layer.{Layer}
use Rattle.book.specs.declared.id.Symbol.{Symbol}
use Rattle.book.specs.declared.id.NodeId.{NodeId}
use Rattle.book.specs.declared.id.EquationId.{EquationId}
use Rattle.book.specs.Answers.{symbol_answer, node_answer, equation_answer}
use Rattle.samples.specs.Shapes.{pair_of}
use Rattle.samples.specs.Filling.{Tried, EquatesPair, is_granted}

pub symbol_told : (r : Result Symbol Layer) → is_ok r ≡ is_granted (symbol_answer r)
symbol_told (Ok x) = refl
symbol_told (Err e) = refl

pub node_told : (r : Result NodeId Layer) → is_ok r ≡ is_granted (node_answer r)
node_told (Ok x) = refl
node_told (Err e) = refl

pub equation_told : (r : Result EquationId Layer) → is_ok r ≡ is_granted (equation_answer r)
equation_told (Ok x) = refl
equation_told (Err e) = refl

pub asked_name : (s : State) (bs : Name) (r : Result Symbol Layer) (t : State) → Naming s bs (symbol_answer r) t → Tried (λ u a v. Naming u bs a v) s (is_ok r) t
asked_name s bs r t h = record { answer = symbol_answer r; met = h; told = symbol_told r }

pub asked_node : (s : State) (x : Node) (r : Result NodeId Layer) (t : State) → Entering s x (node_answer r) t → Tried (λ u a v. Entering u x a v) s (is_ok r) t
asked_node s x r t h = record { answer = node_answer r; met = h; told = node_told r }

pub asked_pair : (o : Option (NodeId × NodeId)) (p : NodeId × NodeId) (s : State) (r : Result EquationId Layer) (ok : Bool) (t : State)
    → o ≡ Some p → ok ≡ is_ok r → Equating s p.0.0 p.1.0 (equation_answer r) t → EquatesPair (pair_of o) s ok t
asked_pair o p s r ok t e k h =
    let P : Option (NodeId × NodeId) → Type 0 = λ q. EquatesPair (pair_of q) s ok t in
    subst P (sym e) (record { answer = equation_answer r; met = h; told = k ∙ equation_told r })

-- two spellings of one pair
pub along_pair : (o q : Option (ℕ × ℕ)) (s : State) (ok : Bool) (t : State) → o ≡ q → EquatesPair o s ok t → EquatesPair q s ok t
along_pair o q s ok t e h = rw e at h
