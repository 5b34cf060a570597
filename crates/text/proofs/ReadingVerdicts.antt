-- What the verdict on a whole text says of builds.
use Rattle.std.proofs.Common.{◌≡◌, ℕ, ◌<◌, ◌≤◌, List, [], ◌∷◌, length, Ok, Err, Result, sym, refl, ap, ◌∙◌, subst, append-nil, MatchResult}
use Rattle.theory.specs.Builds.{Build, text, depth, Lawful, IsBuild}
use Rattle.theory.proofs.Texts.{ended_end}
use Rattle.text.specs.declared.build.BuildFault.{BuildFault}
use Rattle.text.specs.declared.build.BuildFault.TheVariants.{Broken, TooDeep}
use Rattle.text.specs.Reading.{Outcome, reads, verdict}
use Rattle.text.proofs.ReadingLaws.{read_whole, read_deep, Fronts, read_front}
use Rattle.text.proofs.ReadingLengths.{Short, read_short}

-- a lawful build within the levels leaves nothing
pub build_ends : (d : ℕ) (u : Build) (xs : List ℕ) → Lawful u → depth u ≤ d → text u ≡ xs → reads d xs ≡ Ok []
build_ends d u xs m h e = ap (reads d) (sym e ∙ sym (append-nil (text u))) ∙ read_whole d u [] m (ended_end u) h

pub build_deep : (d : ℕ) (u : Build) (xs : List ℕ) → Lawful u → d < depth u → text u ≡ xs → reads d xs ≡ Err TooDeep
build_deep d u xs m h e = ap (reads d) (sym e ∙ sym (append-nil (text u))) ∙ read_deep d u [] m (ended_end u) h

pub verdict_build : (d : ℕ) (xs : List ℕ) (o : Outcome) → reads d xs ≡ o → Fronts d xs o → MatchResult (verdict o) (λ _. IsBuild d xs) (λ _. IsBuild d xs → ⊥)
verdict_build d xs (Ok []) e f =
    record { build = f.build; lawful = f.lawful; shallow = f.shallow; whole = sym (f.whole ∙ append-nil (text f.build)) }
verdict_build d xs (Ok (b ∷ bs)) e f = λ i.
    let k = build_ends d i.build xs i.lawful i.shallow i.whole in
    cc
verdict_build d xs (Err c) e f = λ i.
    let k = build_ends d i.build xs i.lawful i.shallow i.whole in
    cc

pub verdict_short : (n : ℕ) (o : Outcome) → Short n o → verdict o ≡ Err TooDeep → ⊥
verdict_short n (Ok []) s e = cc
verdict_short n (Ok (b ∷ bs)) s e = cc
verdict_short n (Err Broken) s e = cc
verdict_short n (Err TooDeep) s e = s

-- all that an answer says which is the verdict
pub record Checked (d : ℕ) (xs : List ℕ) (r : Result (Unit {0}) BuildFault) : Type 0 where
  pub build : MatchResult r (λ _. IsBuild d xs) (λ _. IsBuild d xs → ⊥)
  pub granted : (u : Build) → Lawful u → depth u ≤ d → text u ≡ xs → r ≡ Ok tt
  pub deep : (u : Build) → Lawful u → d < depth u → text u ≡ xs → r ≡ Err TooDeep
  pub shallow : length xs ≤ d → r ≡ Err TooDeep → ⊥

pub checked : (d : ℕ) (xs : List ℕ) (r : Result (Unit {0}) BuildFault) → r ≡ verdict (reads d xs) → Checked d xs r
checked d xs r e =
    let P : Result (Unit {0}) BuildFault → Type 0 = λ v. Checked d xs v in
    subst P (sym e)
    record {
      build = verdict_build d xs (reads d xs) refl (read_front d xs);
      granted = λ u m h w. ap verdict (build_ends d u xs m h w);
      deep = λ u m h w. ap verdict (build_deep d u xs m h w);
      shallow = λ h q. verdict_short (length xs) (reads d xs) (read_short d xs h) q;
    }
