-- One row is changed, as the list says.
use Rattle.std.proofs.Common.{arith}
use Rattle.price.proofs.Prices.{set_price}
use Rattle.price.proofs.bill.Bill.set.Goals as goal

pub returns-clause-after : goal.returns-clause-after
returns-clause-after c = set_price c.args.self.now.prices.rows c.args.symbol c.args.price _ (omega arith) c.in_ok-set.ensures.after
