-- Behind the tab the next field begins, and what is left begins behind it.
use Rattle.std.proofs.Common.{ℕ, ◌+◌, ap, length, length-drop, arith, rules}
use Rattle.std.proofs.lemmas.List.{length-take-le}
use Rattle.text.specs.Scanning.{tab}
use Rattle.records.specs.Fields.{placed}
use Rattle.records.proofs.Splits.{next_split, next_within}
use Rattle.records.proofs.field.RestIterator.next.Goals as goal

pub slice_bounds-self-count : goal.slice_bounds-self-count
slice_bounds-self-count c = next_within c.in_ok-behind.behind.now c.stretch_until.result.now (c.stretch_until.ensures tab (λ b r h. search rules))

pub slice_bounds-self-start : goal.slice_bounds-self-start
slice_bounds-self-start c = next_within c.in_ok-behind.behind.now c.stretch_until.result.now (c.stretch_until.ensures tab (λ b r h. search rules))

pub overflow_add-self : goal.overflow_add-self
overflow_add-self c =
    let h = next_within c.in_ok-behind.behind.now c.stretch_until.result.now (c.stretch_until.ensures tab (λ b r h. search rules)) in
    omega (arith, c.in_ok-behind.ensures.cases.1)

pub invariant_of-self : goal.invariant_of-self
invariant_of-self c =
    let h = next_within c.in_ok-behind.behind.now c.stretch_until.result.now (c.stretch_until.ensures tab (λ b r h. search rules)) in
    record { fits = omega (arith, c.in_ok-behind.ensures.cases.1, length-take-le {A = ℕ}, length-drop {A = ℕ}, c.args.self.now.fits) }

pub returns-clause-steps : goal.returns-clause-steps
returns-clause-steps c =
    ap (placed (c.args.self.now.at + 1))
    (next_split c.args.self.now.bytes.now c.in_ok-behind.behind.now c.stretch_until.result.now _ c.in_ok-behind.ensures.cases.0 (c.stretch_until.ensures tab (λ b r h. search rules)))

pub returns-clause-goes : goal.returns-clause-goes
returns-clause-goes c =
    let e =
    ap (λ fs. length (placed (c.args.self.now.at + 1) fs))
    (next_split c.args.self.now.bytes.now c.in_ok-behind.behind.now c.stretch_until.result.now _ c.in_ok-behind.ensures.cases.0 (c.stretch_until.ensures tab (λ b r h. search rules))) in
    record { on = λ _. (tt, tt, omega (arith, e)); keeps = tt; rests = λ _. tt }
