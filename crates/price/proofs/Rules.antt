-- The laws of a price rule hold of builds, compared by what they cost.
use Rattle.std.proofs.Common.{ℕ, Bool, arith}
use Rattle.std.proofs.lemmas.Bool.Decides.{nat_tests}
use Rattle.theory.specs.Names.{Name}
use Rattle.theory.specs.Builds.{Build, alone, one, two}
use Rattle.theory.specs.Costs.{cost_of}
use Rattle.price.specs.Laws.{AtMost, Fitting, Order, Growth, Weight}
use Rattle.price.specs.Rules.{rule_of, Costed}

-- to be no dearer is transitive
pub ties : {C : Type 0} (below : C → C → Bool) → Order below → (a b c : C) → AtMost below a b → AtMost below b c → AtMost below a c
ties below o a b c p q =
    let t = o.transitive c a b in
    let u = o.total b c in
    let v = o.total a b in
    grind (arith, nat_tests)

module _ {R C : Type 0} (fits : C → Type 0) (below : C → C → Bool) (alone' : R → ℕ → C) (one' : R → ℕ → C → C) (two' : R → ℕ → C → C → C) (r : R) (number : Name → ℕ) where
  abbrev cost : Build → C
  cost u = cost_of (rule_of below alone' one' two' r number) u

  fit : Fitting fits alone' one' two' → (u : Build) → fits (cost u)
  fit f (alone x) = f.fits_alone r (number x)
  fit f (one x u) = f.fits_one r (number x) (cost u) (fit f u)
  fit f (two x u v) = f.fits_two r (number x) (cost u) (cost v) (fit f u) (fit f v)

  pub costed : Fitting fits alone' one' two' → Order below → Growth fits below one' two' → Weight fits below one' two'
      → Costed fits (rule_of below alone' one' two' r number)
  costed f o g w =
      record {
        costs = fit f;
        laws =
            record {
              irreflexive = λ a. o.irreflexive (cost a);
              transitive = λ a b c. o.transitive (cost a) (cost b) (cost c);
              ties = λ a b c. ties below o (cost a) (cost b) (cost c);
              growth_one = λ x a b. g.growth_one r (number x) (cost a) (cost b) (fit f a) (fit f b);
              growth_left = λ x a b c. g.growth_left r (number x) (cost a) (cost b) (cost c) (fit f a) (fit f b) (fit f c);
              growth_right = λ x a b c. g.growth_right r (number x) (cost a) (cost b) (cost c) (fit f a) (fit f b) (fit f c);
              weight_one = λ x a. w.weight_one r (number x) (cost a) (fit f a);
              weight_left = λ x a b. w.weight_left r (number x) (cost a) (cost b) (fit f a) (fit f b);
              weight_right = λ x a b. w.weight_right r (number x) (cost a) (cost b) (fit f a) (fit f b);
            };
      }
