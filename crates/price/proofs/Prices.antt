-- What a bill's list becomes where a price was set.
use Rattle.std.proofs.Common.{ℕ, ◌≤◌, Ok, refl}
use Rattle.price.specs.Lists.{Valuing, no_room, renewed, entered}
use Rattle.price.specs.Prices.{Prices, dearest, Setting, changed, added}

pub set_price : (rows : Prices) (x p : ℕ) (after : Prices) → p ≤ dearest → Valuing rows x p (Ok tt) after → Setting rows x p (Ok tt) after
set_price rows x p after le (no_room none full a e) = absurd (cc)
set_price rows x p after le (renewed i f a e) = changed i le f refl e
set_price rows x p after le (entered i none f a e) = added i le none f refl e
