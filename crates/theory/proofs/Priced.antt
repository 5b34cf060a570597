-- What makes a priced book a book.
use Rattle.std.proofs.Common.{◌≡◌, ℕ, Bool, true, false, List, [], length, true≢false}
use Rattle.theory.specs.Costs.{Cheaper, LawfulOrder}
use Rattle.theory.specs.Books.{State, Book, Chosen, with_choices}

-- s with the choices cs, and a pricing in force or none
abbrev pub with_pricing : State → List ℕ → Bool → State
with_pricing s cs v =
    record {
      names = s.names;
      nodes = s.nodes;
      equated = s.equated;
      classes = s.classes;
      choices = cs;
      priced = v;
      room = s.room;
    }

-- all but the pricing is as it was
pub book_with : (s : State) → Book s → (cs : List ℕ) (v : Bool) → (v ≡ false → cs ≡ []) → (v ≡ true → length cs ≡ length s.nodes)
    → Book (with_pricing s cs v)
book_with s B cs v none F =
    record {
      limit = B.limit;
      names_fit = B.names_fit;
      nodes_fit = B.nodes_fit;
      equated_fit = B.equated_fit;
      formed = B.formed;
      names_apart = B.names_apart;
      symbols = B.symbols;
      lower = B.lower;
      builds_apart = B.builds_apart;
      between = B.between;
      classed = B.classed;
      lowest = λ i h. let L = B.lowest i h in record { here = L.here; alike = L.alike; low = L.low };
      unpriced = none;
      chosen = F;
    }

pub priced_book : (s : State) → Book s → (cheaper : Cheaper) → LawfulOrder cheaper → (cs : List ℕ) → Chosen s cheaper cs → Book (with_choices s cs)
priced_book s B cheaper L cs C = book_with s B cs true (λ e. absurd (true≢false e)) (λ e. C.long)
