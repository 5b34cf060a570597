-- The slice that was lent is the queue's, so it has the entry that was pushed.
use Rattle.std.proofs.Common.{◌≡◌, Bool, true, List, [], ◌∷◌, take, MatchBool, sym, subst, arith, rules}
use Rattle.std.specs.List.Sorted.{IsPermutation}
use Rattle.std.proofs.lemmas.Bool.Decides.{when_true}
use Rattle.queue.specs.Queues.{slice, Pushed, Same}
use Rattle.queue.specs.declared.Entry.{Entry}
use Rattle.queue.specs.declared.Queue.{Queue}
use Rattle.pricecheck.proofs.drain.kept.Goals as goal

one_held : {C : Type 0} (e : Entry C) (q q' : Queue C) (r : Bool) (room : List (Entry C)) → q.count ≡ 0 → r ≡ true
    → MatchBool r (Pushed e q q') (Same q q') → room ≡ slice q' → IsPermutation (e ∷ []) (take 1 room)
one_held e q q' r room none h after is =
    let p = when_true _ _ h after in
    let n : q'.count ≡ 1 = omega (arith, p.count) in
    let s : IsPermutation (e ∷ []) (take q'.count (slice q')) = subst (λ k. IsPermutation (e ∷ take k (slice q)) (take q'.count (slice q'))) none p.adds in
    subst (λ l. IsPermutation (e ∷ []) (take 1 l)) (sym is) (subst (λ k. IsPermutation (e ∷ []) (take k (slice q'))) n s)

pub returns : goal.returns
returns g c = λ h. one_held c.args.e c.over-queue.result c.push.new.self c.push.result _ c.over-queue.ensures.empty h c.push.ensures.after (search rules)
