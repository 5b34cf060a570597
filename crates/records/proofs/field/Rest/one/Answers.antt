-- No field, or more than one, is the wrong count; the one field is broken or too deep at its place.
use Rattle.std.proofs.Common.{◌+◌, [], ◌∷◌, length, ap, ◌∙◌, refl, inl, arith}
use Rattle.std.proofs.lemmas.Result.{err_from_is_err_and}
use Rattle.records.specs.Forms.{Unfit}
use Rattle.records.proofs.Judges.{count_first, broken_first, deep_first, none_of_one}
use Rattle.records.proofs.Places.{taken, none_taken, none_told, none_left, some_left}
use Rattle.records.proofs.field.Rest.one.Goals as goal

pub returns-in_err-only : goal.returns-in_err-only
returns-in_err-only c =
    let p = err_from_is_err_and c.from_residual.result c.from_residual.ensures.1 in
    let none = none_taken c.args.self c.next.new.self _ c.in_err-only.ensures.ok_part c.next.ensures.steps in
    let e = none_told c.next.result c.wrong_count-wrong_count.result c.in_err-only.field-0.0 c.in_err-only.ensures.ok_part c.in_err-only.ensures.value in
    rw (p.1, p.2, e, c.wrong_count-wrong_count.ensures)
    (count_first c.args.self.start (c.args.form ∷ []) _ (c.args.self.at + 1) (λ h. omega (arith, ap length none, h)))

pub returns-then-not-is_empty : goal.returns-then-not-is_empty
returns-then-not-is_empty c =
    let t = taken c.args.self c.next.new.self _ _ c.in_ok-only.ensures.ok_part c.next.ensures.steps in
    rw c.wrong_count-wrong_count.ensures
    (count_first c.args.self.start (c.args.form ∷ []) _ (c.args.self.at + 1)
    (λ h. omega (arith, ap length t.whole, some_left c.next.new.self.bytes.now c.if-not-is_empty.ensures)))

pub returns-in_err-check : goal.returns-in_err-check
returns-in_err-check c =
    let p = err_from_is_err_and c.from_residual-in_err-check.result c.from_residual-in_err-check.ensures.1 in
    let e = c.in_err-check.ensures in
    let t = taken c.args.self c.next.new.self _ _ c.in_ok-only.ensures.ok_part c.next.ensures.steps in
    rw (p.1, p.2, e.0, t.whole, none_left c.next.new.self.bytes.now c.if-not-is_empty.ensures)
    (broken_first c.args.self.start (c.args.form ∷ []) (c.in_ok-only.only.bytes.now ∷ []) (c.args.self.at + 1) _ refl (inl (e.1, t.placed)))

pub returns-in_err-check-2 : goal.returns-in_err-check-2
returns-in_err-check-2 c =
    let p = err_from_is_err_and c.from_residual-in_err-check-2.result c.from_residual-in_err-check-2.ensures.1 in
    let e = c.in_err-check-2.ensures in
    let t = taken c.args.self c.next.new.self _ _ c.in_ok-only.ensures.ok_part c.next.ensures.steps in
    rw (p.1, p.2, e.0, t.whole, none_left c.next.new.self.bytes.now c.if-not-is_empty.ensures)
    (deep_first c.args.self.start (c.args.form ∷ []) (c.in_ok-only.only.bytes.now ∷ []) (c.args.self.at + 1) _ refl (none_of_one Unfit _ _ _ (λ u. u c.in_ok-check.ensures)) (inl (e.1, t.placed)))

pub returns : goal.returns
returns c =
    let t = taken c.args.self c.next.new.self _ _ c.in_ok-only.ensures.ok_part c.next.ensures.steps in
    record {
      all = t.whole ∙ ap (λ r. c.in_ok-only.only.bytes.now ∷ r) (none_left c.next.new.self.bytes.now c.if-not-is_empty.ensures);
      placed = t.placed;
      fit = c.in_ok-check.ensures;
      shallow = c.in_ok-check-2.ensures;
    }
