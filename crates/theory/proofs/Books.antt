-- What the nodes of a book stand for: a node has the build of its symbol over its parts, and no other node has it.
use Rattle.std.proofs.Common.{◌≡◌, ℕ, ◌<◌, List, [], length, sym, ap, ◌∙◌, subst, ap₂, arith}
use lib.ListN.{length-map}
use Rattle.std.proofs.lemmas.List.{get_or-map}
use Rattle.theory.specs.Names.{Name}
use Rattle.theory.specs.Tables.{atom, EachPart, shape_at, build_over}
use Rattle.theory.specs.Books.{Node, leaf, over, pair, Parts, shape, State, Book, IsNode, table, build, node_build, node_at}
use Rattle.theory.specs.Calls.{Proper, UnknownBuild}
use Rattle.theory.proofs.Tables.{build_step}

-- two states with the same fields are the same
pub same_state : (s t : State) → s.names ≡ t.names → s.nodes ≡ t.nodes → s.equated ≡ t.equated → s.classes ≡ t.classes
    → s.choices ≡ t.choices → s.priced ≡ t.priced → s.room ≡ t.room → s ≡ t
same_state s t a b c d e f g =
    λ i. record { names = a i; nodes = b i; equated = c i; classes = d i; choices = e i; priced = f i; room = g i }

pub table_length : (s : State) → length (table s) ≡ length s.nodes
table_length s = length-map s.nodes (shape s.names)

pub shape_is : (s : State) (i : ℕ) → IsNode s i → shape_at (table s) i ≡ shape s.names (node_at s i)
shape_is s i h = get_or-map (shape s.names) s.nodes i (leaf 0) (atom []) h

-- parts of a node are parts of its shape
pub each_of : (P : ℕ → Type 0) (ns : List Name) (x : Node) → Parts P x → EachPart P (shape ns x)
each_of P ns (leaf k) h = tt
each_of P ns (over k p) h = h
each_of P ns (pair k p q) h = h

pub parts_map : (P Q : ℕ → Type 0) → ((p : ℕ) → P p → Q p) → (x : Node) → Parts P x → Parts Q x
parts_map P Q f (leaf k) h = tt
parts_map P Q f (over k p) h = f p h
parts_map P Q f (pair k p q) h = (f p h.0, f q h.1)

module _ (s : State) (B : Book s) where
  pub build_is : (i : ℕ) → IsNode s i → build s i ≡ node_build s (node_at s i)
  build_is i h =
      build_step (table s) i (omega (arith, table_length s))
      (subst (EachPart (λ p. p < i)) (sym (shape_is s i h)) (each_of (λ p. p < i) s.names (node_at s i) (B.lower i h)))
      ∙ ap (build_over (build s)) (shape_is s i h)

  pub proper_at : (i : ℕ) → IsNode s i → Proper s (node_at s i)
  proper_at i h =
      record {
        named = B.symbols i h;
        parts = parts_map (λ p. p < i) (IsNode s) (λ p l. omega arith) (node_at s i) (B.lower i h);
      }

  -- a build is of one symbol over one list of parts only
  node_of_build : (y x : Node) → Proper s y → Proper s x → node_build s y ≡ node_build s x → y ≡ x
  node_of_build (leaf k) (leaf j) P Q e = ap leaf (B.names_apart k j P.named Q.named (cc))
  node_of_build (leaf k) (over j p) P Q e = cc
  node_of_build (leaf k) (pair j p q) P Q e = cc
  node_of_build (over k p) (leaf j) P Q e = cc
  node_of_build (over k p) (over j q) P Q e =
      ap₂ over (B.names_apart k j P.named Q.named (cc)) (B.builds_apart p q P.parts Q.parts (cc))
  node_of_build (over k p) (pair j q r) P Q e = cc
  node_of_build (pair k p p') (leaf j) P Q e = cc
  node_of_build (pair k p p') (over j q) P Q e = cc
  node_of_build (pair k p p') (pair j q q') P Q e =
      let a = B.names_apart k j P.named Q.named (cc) in
      let b = B.builds_apart p q P.parts.0 Q.parts.0 (cc) in
      let c = B.builds_apart p' q' P.parts.1 Q.parts.1 (cc) in
      cc

  -- a node with the same symbol and parts has the build
  pub known_build : (x : Node) (k : ℕ) → IsNode s k → node_at s k ≡ x → build s k ≡ node_build s x
  known_build x k h e = build_is k h ∙ ap (node_build s) e

  -- without such a node the build is unknown
  pub unknown_build : (x : Node) → Proper s x → ((k : ℕ) → IsNode s k → ¬ (node_at s k ≡ x)) → UnknownBuild s (node_build s x)
  unknown_build x P U k h e = U k h (node_of_build (node_at s k) x (proper_at k h) P (sym (build_is k h) ∙ e))
