-- The rows after a call are pinned by the rows before it and by the state after it.
use Rattle.std.proofs.Common.{◌≡◌, ℕ, ◌<◌, ◌≤◌, ◌⊎◌, sym, ap, ◌∙◌, inl, inr, arith}
use Rattle.std.proofs.lemmas.List.{ext_get_or}
use Rattle.theory.specs.Books.{State}
use Rattle.book.specs.Rows.{absent, row}
use Rattle.book.specs.Layout.{room, laid_row, Pins}
use Rattle.book.proofs.Accepting.{either}

pub pins : Pins
pins s t u T U e = ext_get_or absent t.rows u.rows (T.long ∙ sym U.long) (λ i h. go i (either i (room s)))
  where
    go : (i : ℕ) → (i < room s) ⊎ (room s ≤ i) → row t.rows i ≡ row u.rows i
    go i (inl h) =
        T.laid i (omega (arith, T.long)) ∙ ap (λ (x : State). laid_row x i) e ∙ sym (U.laid i (omega (arith, U.long)))
    go i (inr h) = T.past i h ∙ sym (U.past i h)
