-- The laws of the rule, as the trait has them.
use Rattle.price.proofs.Rules.{costed}
use Rattle.price.proofs.laws.laws_hold.Goals as goal

pub returns : goal.returns
returns g c =
    let p = g.R.PriceRule in
    let m = g.met.R.PriceRule in
    λ number. costed p.fits p.below p.alone p.one p.two c.args.rule.now number m.fitting m.order m.growth m.weight
