-- The guard clears the marking bytes, as the listing expects of its caller; what is written is exact as a grammar.
use Rattle.std.proofs.Common.{ℕ, replicate, ap, ◌∙◌}
use Rattle.book.specs.Held.{contents, state}
use Rattle.book.proofs.Whole.{sound_of}
use Rattle.book.proofs.Booked.{book_of}
use Rattle.listing.proofs.Exact.{spells}
use Rattle.listing.proofs.list.list.Goals as goal

pub returns : goal.returns
returns c =
    let b = c.args.book.now in
    let s = state b.table in
    let L = c.list_marking.ensures _ (c.drop-guard.ensures ∙ ap (λ (n : ℕ). replicate n 0) c.list_marking.auto.marks) in
    record {
      answer = L;
      grammar = spells s s.choices s.priced (book_of (contents b.table) (sound_of (contents b.table) b.holds)) c.args.node.0 _ _ _ _ c.list_marking.result L;
    }
