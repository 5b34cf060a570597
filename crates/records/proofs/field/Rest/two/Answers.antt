-- Fewer or more than two fields are the wrong count; of two, the first that is broken or too deep is told at its place.
use Rattle.std.proofs.Common.{◌+◌, [], ◌∷◌, length, ap, ◌∙◌, refl, inl, inr, arith}
use Rattle.std.proofs.lemmas.Result.{err_from_is_err_and}
use Rattle.records.specs.Forms.{Unfit}
use Rattle.records.proofs.Judges.{count_first, broken_first, deep_first, none_of_two}
use Rattle.records.proofs.Places.{taken, taken_two, none_taken, none_told, none_left, some_left}
use Rattle.records.proofs.field.Rest.two.Goals as goal

pub returns-in_err-first : goal.returns-in_err-first
returns-in_err-first c =
    let p = err_from_is_err_and c.from_residual.result c.from_residual.ensures.1 in
    let none = none_taken c.args.self c.next.new.self _ c.in_err-first.ensures.ok_part c.next.ensures.steps in
    let e = none_told c.next.result c.wrong_count-wrong_count.result c.in_err-first.field-0.0 c.in_err-first.ensures.ok_part c.in_err-first.ensures.value in
    rw (p.1, p.2, e, c.wrong_count-wrong_count.ensures)
    (count_first c.args.self.start (c.args.left ∷ c.args.right ∷ []) _ (c.args.self.at + 1) (λ h. omega (arith, ap length none, h)))

pub returns-in_err-second : goal.returns-in_err-second
returns-in_err-second c =
    let p = err_from_is_err_and c.from_residual-in_err-second.result c.from_residual-in_err-second.ensures.1 in
    let t = taken c.args.self c.next.new.self _ _ c.in_ok-first.ensures.ok_part c.next.ensures.steps in
    let none = none_taken c.next.new.self c.next-2.new.self _ c.in_err-second.ensures.ok_part c.next-2.ensures.steps in
    let e = none_told c.next-2.result c.wrong_count-wrong_count.result c.in_err-second.field-0.0 c.in_err-second.ensures.ok_part c.in_err-second.ensures.value in
    rw (p.1, p.2, e, c.wrong_count-wrong_count.ensures)
    (count_first c.args.self.start (c.args.left ∷ c.args.right ∷ []) _ (c.args.self.at + 1) (λ h. omega (arith, ap length t.whole, ap length none, h)))

pub returns-then-not-is_empty : goal.returns-then-not-is_empty
returns-then-not-is_empty c =
    let t = taken_two c.args.self c.next.new.self c.next-2.new.self _ _ _ _ c.in_ok-first.ensures.ok_part c.in_ok-second.ensures.ok_part c.next.ensures.steps c.next-2.ensures.steps in
    rw c.wrong_count-wrong_count.ensures
    (count_first c.args.self.start (c.args.left ∷ c.args.right ∷ []) _ (c.args.self.at + 1)
    (λ h. omega (arith, ap length t.whole, some_left c.next-2.new.self.bytes.now c.if-not-is_empty.ensures)))

pub returns-in_err-check : goal.returns-in_err-check
returns-in_err-check c =
    let p = err_from_is_err_and c.from_residual-in_err-check.result c.from_residual-in_err-check.ensures.1 in
    let e = c.in_err-check.ensures in
    let t = taken_two c.args.self c.next.new.self c.next-2.new.self _ _ _ _ c.in_ok-first.ensures.ok_part c.in_ok-second.ensures.ok_part c.next.ensures.steps c.next-2.ensures.steps in
    rw (p.1, p.2, e.0, t.whole, none_left c.next-2.new.self.bytes.now c.if-not-is_empty.ensures)
    (broken_first c.args.self.start (c.args.left ∷ c.args.right ∷ []) (c.in_ok-first.first.bytes.now ∷ c.in_ok-second.second.bytes.now ∷ []) (c.args.self.at + 1) _ refl (inl (e.1, t.placed)))

pub returns-in_err-check-2 : goal.returns-in_err-check-2
returns-in_err-check-2 c =
    let p = err_from_is_err_and c.from_residual-in_err-check-2.result c.from_residual-in_err-check-2.ensures.1 in
    let e = c.in_err-check-2.ensures in
    let t = taken_two c.args.self c.next.new.self c.next-2.new.self _ _ _ _ c.in_ok-first.ensures.ok_part c.in_ok-second.ensures.ok_part c.next.ensures.steps c.next-2.ensures.steps in
    rw (p.1, p.2, e.0, t.whole, none_left c.next-2.new.self.bytes.now c.if-not-is_empty.ensures)
    (broken_first c.args.self.start (c.args.left ∷ c.args.right ∷ []) (c.in_ok-first.first.bytes.now ∷ c.in_ok-second.second.bytes.now ∷ []) (c.args.self.at + 1) _ refl (inr (λ u. u c.in_ok-check.ensures, inl (e.1, t.next_placed))))

pub returns-in_err-check-3 : goal.returns-in_err-check-3
returns-in_err-check-3 c =
    let p = err_from_is_err_and c.from_residual-in_err-check-3.result c.from_residual-in_err-check-3.ensures.1 in
    let e = c.in_err-check-3.ensures in
    let t = taken_two c.args.self c.next.new.self c.next-2.new.self _ _ _ _ c.in_ok-first.ensures.ok_part c.in_ok-second.ensures.ok_part c.next.ensures.steps c.next-2.ensures.steps in
    rw (p.1, p.2, e.0, t.whole, none_left c.next-2.new.self.bytes.now c.if-not-is_empty.ensures)
    (deep_first c.args.self.start (c.args.left ∷ c.args.right ∷ []) (c.in_ok-first.first.bytes.now ∷ c.in_ok-second.second.bytes.now ∷ []) (c.args.self.at + 1) _ refl (none_of_two Unfit _ _ _ _ _ (λ u. u c.in_ok-check.ensures) (λ u. u c.in_ok-check-2.ensures)) (inl (e.1, t.placed)))

pub returns-in_err-check-4 : goal.returns-in_err-check-4
returns-in_err-check-4 c =
    let p = err_from_is_err_and c.from_residual-in_err-check-4.result c.from_residual-in_err-check-4.ensures.1 in
    let e = c.in_err-check-4.ensures in
    let t = taken_two c.args.self c.next.new.self c.next-2.new.self _ _ _ _ c.in_ok-first.ensures.ok_part c.in_ok-second.ensures.ok_part c.next.ensures.steps c.next-2.ensures.steps in
    rw (p.1, p.2, e.0, t.whole, none_left c.next-2.new.self.bytes.now c.if-not-is_empty.ensures)
    (deep_first c.args.self.start (c.args.left ∷ c.args.right ∷ []) (c.in_ok-first.first.bytes.now ∷ c.in_ok-second.second.bytes.now ∷ []) (c.args.self.at + 1) _ refl (none_of_two Unfit _ _ _ _ _ (λ u. u c.in_ok-check.ensures) (λ u. u c.in_ok-check-2.ensures)) (inr (c.in_ok-check-3.ensures, inl (e.1, t.next_placed))))

pub returns : goal.returns
returns c =
    let t = taken_two c.args.self c.next.new.self c.next-2.new.self _ _ _ _ c.in_ok-first.ensures.ok_part c.in_ok-second.ensures.ok_part c.next.ensures.steps c.next-2.ensures.steps in
    record {
      all = t.whole ∙ ap (λ r. c.in_ok-first.first.bytes.now ∷ c.in_ok-second.second.bytes.now ∷ r) (none_left c.next-2.new.self.bytes.now c.if-not-is_empty.ensures);
      placed = t.placed;
      next_placed = t.next_placed;
      fit = c.in_ok-check.ensures;
      next_fit = c.in_ok-check-2.ensures;
      shallow = c.in_ok-check-3.ensures;
      next_shallow = c.in_ok-check-4.ensures;
    }
