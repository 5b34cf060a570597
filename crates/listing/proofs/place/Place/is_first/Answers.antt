-- The production is met by no lower node, or by one of them.
use Rattle.std.proofs.Common.{rules, tests, ℕ, ◌<◌, ◌≤◌, ◌≡◌, true, false, Bool, sym, arith}
use Rattle.std.specs.Bool.{MatchBool}
use Rattle.theory.specs.Books.{State}
use Rattle.theory.specs.Productions.{Production, production}
use Rattle.listing.specs.Nodes.{state_in}
use Rattle.listing.specs.Order.{unmet}
use Rattle.listing.proofs.Firsts.{met, unmet_all}
use Rattle.listing.proofs.Ranges.{checked}
use Rattle.listing.proofs.place.Place.is_first.Goals as goal

by_lower : (s : State) (p : Production) (n : ℕ) (r : Bool)
    → MatchBool r ((i : ℕ) → 0 ≤ i → i < n → production s i ≡ p → ⊥) ((i : ℕ) × (0 ≤ i) × (i < n) × (production s i ≡ p)) → r ≡ unmet s p n
by_lower s p n true h = sym (unmet_all s p n (λ i l. h i (omega arith) l))
by_lower s p n false h = sym (met s p n h.0 h.2 h.3)

pub returns : goal.returns
returns c =
    let s = state_in c.args.self.marking.nodes.rows.now in
    let p = production s c.args.self.at in
    by_lower s p c.args.self.at c.all.result
    (checked _ _ (λ i. production s i ≡ p → ⊥) (λ i. production s i ≡ p) (λ x q k. search (rules, tests)) (λ x q k. search (rules, tests)) _ _ _ c.all.ensures.ran)
