-- What a stock list becomes where a symbol was listed.
use Rattle.std.proofs.Common.{◌≡◌, ℕ, true, get_or, set, Ok, Err, sym, refl, ◌∙◌, ap, arith}
use Rattle.std.specs.Prelude.{Option, Some, None, is_some}
use Rattle.std.specs.Option.{option_map}
use Rattle.std.proofs.lemmas.Bool.Decides.{nat_tests}
use Rattle.std.proofs.lemmas.List.{set-get_or}
use Rattle.text.specs.declared.cause.BookCause.{BookCause}
use Rattle.text.specs.declared.cause.BookCause.TheVariants.{ListFull}
use Rattle.text.specs.declared.cause.Layer.TheVariants.{Book}
use Rattle.price.specs.Lists.{listed, is_for, Valuing, no_room, renewed, entered}
use Rattle.price.specs.Shortages.{Symbols, Listing, known, full, added}
use Rattle.price.proofs.Lists.{found_first, unlisted}
use Rattle.price.specs.declared.list.Listed.{Listed}

has_value : (x : ℕ) (r : Option (Listed (Unit {0}))) → is_for x r ≡ true → is_some (option_map (λ l. l.value) r) ≡ true
has_value x None e = absurd (cc)
has_value x (Some r) e = refl

-- a row for x is the one that lists x, since it has no more to say
is_itself : (x : ℕ) (r : Option (Listed (Unit {0}))) → is_for x r ≡ true → listed x tt ≡ r
is_itself x None e = absurd (cc)
is_itself x (Some r) e = let n : r.symbol ≡ x = grind (arith, nat_tests) in ap (λ k. listed k tt) (sym n)

pub listed_symbol : (rows : Symbols) (x : ℕ) (after : Symbols) → Valuing rows x tt (Ok tt) after → Listing rows x (Ok tt) after
listed_symbol rows x after (no_room none f a e) = absurd (cc)
listed_symbol rows x after (renewed i f a e) =
    let r = get_or rows i (listed x tt) in
    let here = f.here (listed x tt) in
    known (ap is_some (found_first rows i x (listed x tt) f) ∙ has_value x r here) refl (e ∙ ap (set rows i) (is_itself x r here) ∙ set-get_or rows i (listed x tt))
listed_symbol rows x after (entered i none f a e) = added i (ap is_some (unlisted rows x none)) f refl e

pub refused_symbol : (rows : Symbols) (x : ℕ) (cause : BookCause) (after : Symbols) → Valuing rows x tt (Err cause) after → Listing rows x (Err (Book cause)) after
refused_symbol rows x cause after (no_room none f a e) = let is : cause ≡ ListFull = cc in full (ap is_some (unlisted rows x none)) f (ap (λ k. Err (Book k)) is) e
refused_symbol rows x cause after (renewed i f a e) = absurd (cc)
refused_symbol rows x cause after (entered i none f a e) = absurd (cc)
