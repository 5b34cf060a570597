-- Where a class goes when one is put into another.
use Rattle.std.proofs.Common.{◌≡◌, ℕ, Bool, cond, ◌≢◌, ap}
use Rattle.std.proofs.lemmas.Bool.{eq-eqb, ne_eqb}
use Rattle.book.specs.Rows.{moved}

pub moved_gone : (keep gone c : ℕ) → c ≡ gone → moved keep gone c ≡ keep
moved_gone keep gone c e = ap (λ (b : Bool). cond b keep c) (eq-eqb c gone e)

pub moved_other : (keep gone c : ℕ) → c ≢ gone → moved keep gone c ≡ c
moved_other keep gone c e = ap (λ (b : Bool). cond b keep c) (ne_eqb c gone e)
