-- The first congruent node is found, or there is none.
use Rattle.std.proofs.Common.{rules, tests, ◌≡◌, ◌-◌, true, false, length}
use Rattle.std.proofs.lemmas.Iterator.{first_from_Range}
use Rattle.book.specs.Closing.{key}
use Rattle.book.specs.Entering.{same_signature}
use Rattle.book.proofs.Signs.{meets_of}
use Rattle.book.proofs.nodes.Nodes.meeting.Goals as goal

pub returns : goal.returns
returns c =
    let rows = c.args.self.now.rows.now in
    meets_of rows c.find.result c.args.self.now.tidy c.requires
    (first_from_Range _ _ _ c.find.result (λ i. same_signature (key rows i) (key rows (length rows - 1)) ≡ true)
    (λ i. same_signature (key rows i) (key rows (length rows - 1)) ≡ false) c.find.ensures.ran (λ x q k. search (rules, tests)) (λ x q k. search (rules, tests)))
