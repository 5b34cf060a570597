-- One row is changed at most, as the list says.
use Rattle.std.proofs.Common.{rules, ◌≡◌, Err, subst, sym}
use Rattle.text.specs.declared.cause.Layer.TheVariants.{Book}
use Rattle.price.specs.Shortages.{Listing}
use Rattle.price.proofs.Shortages.{listed_symbol, refused_symbol}
use Rattle.price.proofs.stock.Stock.list.Goals as goal

pub returns-in_err-set-clause-after : goal.returns-in_err-set-clause-after
returns-in_err-set-clause-after c =
    let r = refused_symbol c.args.self.now.symbols.rows c.args.symbol _ _ c.in_err-set.ensures.after in
    let e : c.from_residual.result ≡ Err (Book c.in_err-set.field-0.0) = search rules in
    subst (λ a. Listing c.args.self.now.symbols.rows c.args.symbol a c.set.new.self.rows) (sym e) r

pub returns-clause-after : goal.returns-clause-after
returns-clause-after c = listed_symbol c.args.self.now.symbols.rows c.args.symbol _ c.in_ok-set.ensures.after
