-- Each value is looked at, and none before the one that is found has the word.
use Rattle.std.proofs.Common.{rules, ◌≡◌, ◌≢◌, Contains}
use Rattle.std.proofs.lemmas.Iterator.{YieldsList-from_slice, first_from_find}
use borrow.Author.Tests.{tests}
use Rattle.text.proofs.Words.{named_by}
use Rattle.text.proofs.word.Word.of.Goals as goal

pub returns : goal.returns
returns g c =
    let bytes = c.args.bytes.now in
    let spelling = g.Self.Word.spelling in
    let values = c.all.result.now in
    let complete : (v : _) → Contains values v = λ v. rw c.all.ensures (g.met.Self.Word.complete v) in
    let named =
    named_by bytes spelling values complete c.find.result
    (first_from_find _ _ c.find.result (λ v. bytes ≡ spelling v) (λ v. bytes ≢ spelling v) c.find.ensures.ran (YieldsList-from_slice values c.iter.ensures.rest) (λ x q k. search (rules, tests)) (λ x q k. search (rules, tests))) in
    search rules
