-- Each way out of the reader of a build is a step of the reading.
use Rattle.std.proofs.Common.{rules, get_or, ◌≡◌, ◌≤◌, ◌-◌, List, ℕ, sym, refl, subst}
use borrow.Author.Tests.{clash}
use Rattle.theory.specs.Names.{IsName}
use Rattle.text.specs.Reading.{parts, reads}
use Rattle.text.proofs.ReadingSteps.{reads_broken, name_read, opened_some}
use Rattle.text.proofs.build.+read_build_read_parts.Goals as goal
use Rattle.text.proofs.build.+read_build_read_parts.Goals.{read_build-in_default-via-then-rest-lt1, read_build-in_default-via-else-rest-lt1+in_default-1}

pub read_build-returns-then-not-is_name : goal.read_build-returns-then-not-is_name
read_build-returns-then-not-is_name t c =
    let P : List ℕ → Type 0 = λ l. IsName l in
    reads_broken c.args.levels c.args.bytes.now (λ n. clash (c.if-not-is_name.ensures.1 (subst P (sym c.split_name.ensures.name) n)))

pub read_build-returns-in-40 : goal.read_build-returns-in-40
read_build-returns-in-40 t c =
    let level : 1 ≤ c.args.levels = search rules in
    let below : c.in_ok-below.below ≡ c.args.levels - 1 = search rules in
    let read = name_read c.args.levels c.args.bytes.now c.split_name.result.0.now c.split_name.result.1.now level c.split_name.ensures.name c.split_name.ensures.rest (c.if-not-is_name.ensures.0 refl) in
    let bracket : get_or c.split_name.result.1.now 0 0 ≡ 40 = search rules in
    let inside = opened_some (parts (reads c.in_ok-below.below)) c.split_name.result.1.now c.in-40.len_at_least bracket in
    rw (read, ← below, inside) c.read_parts.ensures

pub read_build-returns-in_default : goal.read_build-returns-in_default
read_build-returns-in_default t c =
    let level : 1 ≤ c.args.levels = search rules in
    let read = name_read c.args.levels c.args.bytes.now c.split_name.result.0.now c.split_name.result.1.now level c.split_name.ensures.name c.split_name.ensures.rest (c.if-not-is_name.ensures.0 refl) in
    rw read (search rules)
