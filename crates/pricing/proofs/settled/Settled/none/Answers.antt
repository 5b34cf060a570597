use Rattle.std.proofs.Common.{◌≡◌, Some, None, sym, ◌∙◌}
use Rattle.pricing.proofs.Chains.{clear_all}
use Rattle.pricing.proofs.settled.Settled.none.Goals as goal

pub invariant_of-result : goal.invariant_of-result
invariant_of-result g c =
    record {
      room = c.requires;
      choices = λ k j e. let n : None ≡ Some j = sym (clear_all c.none.result k c.none.ensures) ∙ e in absurd (cc);
    }

pub returns-clause-clear : goal.returns-clause-clear
returns-clause-clear g c = λ k. clear_all c.none.result k c.none.ensures
