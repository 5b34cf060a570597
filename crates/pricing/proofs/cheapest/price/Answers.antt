-- A table is too short, or the classes are settled and the choices stored.
use Rattle.std.proofs.Common.{◌≡◌, List, length, Err, sym, ap, ◌∙◌, subst, arith, rules}
use Rattle.text.specs.declared.cause.Layer.TheVariants.{Book}
use Rattle.theory.specs.Costs.{cheaper_by}
use Rattle.theory.specs.Books.{symbol_of, equations_in}
use Rattle.theory.specs.Spelling.{CheapestBuilds}
use Rattle.theory.specs.Calls.{Pricing, granted}
use Rattle.price.proofs.Rules.{costed}
use Rattle.book.specs.declared.row.Row.{Row}
use Rattle.book.specs.Layout.{Contents, state_of, Relaid}
use Rattle.book.specs.Held.{contents, Kept}
use Rattle.book.proofs.Whole.{sound_of}
use Rattle.book.proofs.Booked.{laid_still}
use Rattle.book.proofs.Front.{front_length}
use Rattle.pricing.specs.Nodes.{bare_rule, links}
use Rattle.pricing.specs.Settling.{Settles}
use Rattle.pricing.specs.Told.{book_rule, CostsTold}
use Rattle.pricing.proofs.Prices.{too_short, pricing, told, cheapest, kept, relaid}
use Rattle.pricing.proofs.cheapest.price.Goals as goal

pub returns-in_err-check-clause-answer : goal.returns-in_err-check-clause-answer
returns-in_err-check-clause-answer g c =
    let s = contents c.args.book.now.table in
    let h = c.in_err-check.ensures.short in
    let is : c.from_residual.result ≡ Err (Book c.in_err-check.field-0.0) = search rules in
    rw (is ∙ ap (λ e. Err (Book e)) h.1) (too_short s (sound_of s c.args.book.now.holds) _ (length c.args.costs.now) (length c.args.waiting.now) h.0)

pub returns-in_err-check-clause-lawful : goal.returns-in_err-check-clause-lawful
returns-in_err-check-clause-lawful g c =
    let P = g.R.PriceRule in
    let m = g.met.R.PriceRule in
    (costed P.fits P.below P.alone P.one P.two c.args.rule.now (symbol_of (state_of (contents c.args.book.now.table)).names) m.fitting m.order m.growth m.weight).laws

pub returns-in_err-check-clause-laid : goal.returns-in_err-check-clause-laid
returns-in_err-check-clause-laid g c =
    let s = contents c.args.book.now.table in
    laid_still s (sound_of s c.args.book.now.holds)

pub store-requires : goal.store-requires
store-requires g c =
    let s = contents c.args.book.now.table in
    let K = sound_of s c.args.book.now.holds in
    let z = ap length c.nodes.ensures ∙ front_length s K in
    record {
      holds = c.args.book.now.holds;
      room = omega (arith, c.in_ok-check.ensures.long.0, c.settle-chosen.auto.costs);
    }

pub invariant_of-book : goal.invariant_of-book
invariant_of-book g c =
    let P = g.R.PriceRule in
    let m = g.met.R.PriceRule in
    let r = c.args.rule.now in
    let s = contents c.args.book.now.table in
    let K = sound_of s c.args.book.now.holds in
    let lawful = (costed P.fits P.below P.alone P.one P.two r (symbol_of (state_of s).names) m.fitting m.order m.growth m.weight).laws in
    let ys = c.store.new.table.rows.now in
    let ch = links c.settle-chosen.result in
    let bs = c.args.costs.now in
    let cs = c.settle-chosen.new.costs in
    let S = subst (λ (xs : List Row). Settles (bare_rule P.below P.alone P.one P.two r) xs ch bs cs) c.nodes.ensures c.settle-chosen.ensures.settles in
    record {
      holds = subst (λ (t : Contents). ∥ Kept t ∥₁) (sym c.store.ensures.after)
          (∣ kept P.below P.alone P.one P.two r s K ys ch bs cs c.store.new.costs S c.store.ensures.spread lawful ∣₁);
    }

pub returns : goal.returns
returns g c =
    let P = g.R.PriceRule in
    let m = g.met.R.PriceRule in
    let r = c.args.rule.now in
    let s = contents c.args.book.now.table in
    let K = sound_of s c.args.book.now.holds in
    let rule = book_rule P.below P.alone P.one P.two r (state_of s) in
    let lawful = (costed P.fits P.below P.alone P.one P.two r (symbol_of (state_of s).names) m.fitting m.order m.growth m.weight).laws in
    let ys = c.store.new.table.rows.now in
    let ch = links c.settle-chosen.result in
    let bs = c.args.costs.now in
    let cs = c.settle-chosen.new.costs in
    let ds = c.store.new.costs in
    let S = subst (λ (xs : List Row). Settles (bare_rule P.below P.alone P.one P.two r) xs ch bs cs) c.nodes.ensures c.settle-chosen.ensures.settles in
    let Q = c.store.ensures.spread in
    let is = sym c.store.ensures.after in
    let long = c.in_ok-check.ensures.long in
    record {
      answer = subst (λ (t : Contents). Pricing (state_of s) (cheaper_by rule) (length bs) (length c.args.waiting.now) (granted tt) (state_of t)) is
          (pricing P.below P.alone P.one P.two r s K ys ch bs cs ds S Q _ _ long.0 long.1);
      lawful = lawful;
      costs = subst (λ (t : Contents). CostsTold rule (state_of s) (state_of t) bs ds) is
          (told P.below P.alone P.one P.two r s K ys ch bs cs ds S Q lawful (omega (arith, c.settle-chosen.auto.costs, c.store.auto.costs)));
      cheapest = subst (λ (t : Contents). CheapestBuilds (equations_in (state_of t)) (cheaper_by rule) (state_of t)) is
          (cheapest P.below P.alone P.one P.two r s K ys ch bs cs ds S Q lawful);
      same = tt;
      laid = subst (λ (t : Contents). Relaid s t) is (relaid P.below P.alone P.one P.two r s K ys ch bs cs ds S Q);
      lent = c.store.ensures.lent;
    }
