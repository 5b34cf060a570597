-- One row is changed, and every other symbol keeps its value.
use Rattle.std.proofs.Common.{rules, sym, refl, ◌∙◌, ap, ◌≡◌, Err, subst}
use Rattle.std.specs.Result.{result_ok}
use Rattle.text.specs.declared.cause.BookCause.TheVariants.{ListFull}
use Rattle.price.specs.Lists.{Valuing}
use Rattle.price.proofs.Lists.{put, put_value, refused}
use Rattle.price.proofs.list.List.set.Goals as goal

pub returns-in_err-i-clause-after : goal.returns-in_err-i-clause-after
returns-in_err-i-clause-after g c =
    let r = refused c.args.self.now.rows c.args.symbol c.args.value _ _ refl refl (sym c.place.ensures ∙ c.ok_or.ensures.ok_part ∙ ap result_ok c.in_err-i.was) in
    let e : c.from_residual.result ≡ Err ListFull = search rules in
    subst (λ a. Valuing c.args.self.now.rows c.args.symbol c.args.value a c.args.self.now.rows) (sym e) r

pub returns-clause-after : goal.returns-clause-after
returns-clause-after g c = put c.args.self.now.rows c.args.symbol c.args.value _ _ c.in_ok-i.i c.replace.new.self refl refl (sym c.place.ensures ∙ c.ok_or.ensures.ok_part ∙ ap result_ok c.in_ok-i.was) c.replace.ensures.after

pub returns-clause-value : goal.returns-clause-value
returns-clause-value g c = put_value c.args.self.now.rows c.args.symbol c.args.value _ _ c.in_ok-i.i c.replace.new.self refl refl (sym c.place.ensures ∙ c.ok_or.ensures.ok_part ∙ ap result_ok c.in_ok-i.was) c.replace.ensures.after
