-- The rows are cleared, so the book holds nothing.
use Rattle.book.proofs.Clearing.{sound_fresh}
use Rattle.book.proofs.Booked.{kept_of}
use Rattle.book.proofs.book.Book.make.Goals as goal

pub invariant_of-result : goal.invariant_of-result
invariant_of-result c = record { holds = ∣ kept_of _ (sound_fresh c.args.rows.now c.clear.new.rows c.clear.ensures) ∣₁ }
