use Rattle.pricing.proofs.Chains.{clear_all}
use Rattle.pricing.proofs.chain.Chains.none.Goals as goal

pub returns-clause-first : goal.returns-clause-first
returns-clause-first c = λ k. clear_all c.none.result k c.none.ensures

pub returns-clause-next : goal.returns-clause-next
returns-clause-next c = λ i. clear_all c.none-2.result i c.none-2.ensures
