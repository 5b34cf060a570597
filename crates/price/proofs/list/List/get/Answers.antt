-- The value stands in the symbol's row.
use Rattle.std.proofs.Common.{rules, ◌≡◌, sym, ◌∙◌, ap}
use Rattle.std.specs.Option.{option_map}
use Rattle.price.proofs.Lists.{found, missed}
use Rattle.price.proofs.list.List.get.Goals as goal

pub returns-in_err-i : goal.returns-in_err-i
returns-in_err-i g c = c.from_residual.ensures ∙ sym (missed c.args.self.now.rows c.args.symbol (sym c.row_for.ensures.first ∙ c.in_err-i.was))

pub returns : goal.returns
returns g c =
    let f = found c.args.self.now.rows c.in_ok-i.i c.args.symbol c.index-self-i.result (sym c.row_for.ensures.first ∙ c.in_ok-i.was) in
    let h : c.map.result ≡ option_map (λ r. r.value) c.index-self-i.result = search rules in
    h ∙ ap (option_map (λ r. r.value)) c.index-self-i.is ∙ sym f
