-- What is written, as a grammar, spells exactly the builds that are equal to the node's build.
use Rattle.std.proofs.Common.{◌≡◌, ℕ, Bool, List, [], length, get_or, take, drop, IfOk, Ok, Err, Result, sym, refl, ap, ◌∙◌, subst, arith}
use Rattle.std.proofs.lemmas.List.{take_at}
use Rattle.text.specs.declared.cause.Layer.{Layer}
use Rattle.theory.specs.Names.{Name}
use Rattle.theory.specs.Builds.{Build, alone, one, two}
use Rattle.theory.specs.Books.{State, Book, IsNode, class}
use Rattle.theory.specs.Productions.{Production, Listed, Derives}
use Rattle.theory.specs.Calls.{granted, Listing, Listing.no_node, Listing.short, Listing.too_long, Listing.written}
use Rattle.theory.proofs.Listings.{listed_exact}
use Rattle.listing.specs.Told.{count_answer}
use Rattle.listing.specs.Steps.{Spells}
use Rattle.listing.proofs.Moved.{listed_to}

-- to be spelled is a matter of names alone
derives_to : (s t : State) → t.names ≡ s.names → (ps : List Production) (u : Build) (k : ℕ) → Derives s ps u k → Derives t ps u k
derives_to s t e ps (alone x) k (p, m, c, n, z) = (p, m, c, ap (λ (ns : List Name). get_or ns p.symbol []) e ∙ n, z)
derives_to s t e ps (one x u) k (p, m, c, n, z, d) =
    (p, m, c, ap (λ (ns : List Name). get_or ns p.symbol []) e ∙ n, z, derives_to s t e ps u p.left d)
derives_to s t e ps (two x u v) k (p, m, c, n, z, d, f) =
    (p, m, c, ap (λ (ns : List Name). get_or ns p.symbol []) e ∙ n, z, derives_to s t e ps u p.left d, derives_to s t e ps v p.right f)

-- a book with any choices will do
module _ (s : State) (choices : List ℕ) (priced : Bool) where
  abbrev with_others : State
  with_others =
      record {
        names = s.names;
        nodes = s.nodes;
        equated = s.equated;
        classes = s.classes;
        choices = choices;
        priced = priced;
        room = s.room;
      }

  listed_spells : Book with_others → (n : ℕ) → IsNode s n → (ps : List Production) → Listed s n ps → Spells s n ps
  listed_spells B n h ps L u =
      let x = listed_exact with_others B n h ps (listed_to s s.names s.equated choices priced s.room n ps L) u in
      (λ e. derives_to with_others s refl ps u (class s n) (x.0 e), λ d. x.1 (derives_to s with_others refl ps u (class s n) d))

  pub spells : Book with_others → (n marking : ℕ) (before after : List Production) (marks : List ℕ) (r : Result ℕ Layer)
      → Listing s n marking before (count_answer r) after marks s → IfOk r (λ m. Spells s n (take m after))
  spells B n marking before after marks (Err e) l = tt
  spells B n marking before after marks (Ok m) l = go l
    where
      go : Listing s n marking before (granted m) after marks s → Spells s n (take m after)
      go (no_node h a e q f) = let z : ◌≡◌ {A = ℕ} 0 1 = cc in absurd (omega arith)
      go (short h l a e q f) = let z : ◌≡◌ {A = ℕ} 0 1 = cc in absurd (omega arith)
      go (too_long h l ps L z a e q f) = let y : ◌≡◌ {A = ℕ} 0 1 = cc in absurd (omega arith)
      go (written h l ps L z a e q f) =
          let y : m ≡ length ps = cc in
          subst (Spells s n) (sym (ap (λ (k : ℕ). take k after) y ∙ ap (take (length ps)) e ∙ take_at ps (drop (length ps) before) (length ps) refl))
          (listed_spells B n h ps L)
