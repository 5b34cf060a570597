-- The lines of a text have no line feed in them, and with a line feed behind each they are the text again.
use Rattle.std.proofs.Common.{◌≡◌, ℕ, zero, suc, ◌<◌, true, false, cond, eqb, ◌⊎◌, List, [], ◌∷◌, ◌++◌, length, get_or, sym, refl, ap, ◌∙◌, inl, inr, arith}
use mathlib.Core.List.Memᴰ
use mathlib.Core.List.{Memᴰ}
use Rattle.std.proofs.lemmas.Bool.{eqb-true, eqb-false}
use Rattle.records.specs.Fields.{longer}
use Rattle.records.specs.Lines.{lines, ended, LinesRejoin}

-- no line feed is in these bytes, or in any of these lines
abbrev Clean : List ℕ → Type 0
Clean l = (k : ℕ) → k < length l → get_or l k 0 ≡ 10 → ⊥

abbrev AllClean : List (List ℕ) → Type 0
AllClean [] = Unit {0}
AllClean (l ∷ ls) = Clean l × AllClean ls

clean_none : Clean []
clean_none k h e = omega arith

clean_more : (b : ℕ) (l : List ℕ) → (b ≡ 10 → ⊥) → Clean l → Clean (b ∷ l)
clean_more b l ne c zero h e = ne e
clean_more b l ne c (suc k) h e = c k (omega arith) e

clean_longer : (b : ℕ) (ls : List (List ℕ)) → (b ≡ 10 → ⊥) → AllClean ls → AllClean (longer b ls)
clean_longer b [] ne c = (clean_more b [] ne clean_none, tt)
clean_longer b (l ∷ ls) ne c = (clean_more b l ne c.0, c.1)

lines_clean : (text : List ℕ) → AllClean (lines text)
lines_clean [] = tt
lines_clean (b ∷ bs) =
    let c = lines_clean bs in
    elim (eqb b 10) as (λ t. eqb b 10 ≡ t → AllClean (cond t ([] ∷ lines bs) (longer b (lines bs))))
    [ true ↦ λ e. (clean_none, c) | false ↦ λ e. clean_longer b (lines bs) (eqb-false b 10 e) c ]
    refl

clean_each : (l : List ℕ) (ls : List (List ℕ)) → AllClean ls → Memᴰ l ls → Clean l
clean_each l [] c m = absurd (Memᴰ.not-nil m)
clean_each l (x ∷ ls) c (Memᴰ.head e) = rw e c.0
clean_each l (x ∷ ls) c (Memᴰ.tail m) = clean_each l ls c.1 m

-- the lines make up the text, but for a line feed after the last
abbrev Whole : List (List ℕ) → List ℕ → Type 0
Whole ls text = (ended ls ≡ text) ⊎ (ended ls ≡ text ++ (10 ∷ []))

whole_more : (b : ℕ) (ls ms : List (List ℕ)) (text : List ℕ) → ended ms ≡ b ∷ ended ls → Whole ls text → Whole ms (b ∷ text)
whole_more b ls ms text e (inl w) = inl (e ∙ ap (λ t. b ∷ t) w)
whole_more b ls ms text e (inr w) = inr (e ∙ ap (λ t. b ∷ t) w)

-- no lines are the lines of no text
whole_none : (text : List ℕ) → Whole [] text → [] ≡ text
whole_none text (inl w) = w
whole_none [] (inr w) = refl
whole_none (b ∷ bs) (inr w) = absurd (let z : ◌≡◌ {A = ℕ} 0 1 = cc in omega arith)

whole_longer : (b : ℕ) (ls : List (List ℕ)) (text : List ℕ) → Whole ls text → Whole (longer b ls) (b ∷ text)
whole_longer b [] text w = inr (ap (λ t. b ∷ (t ++ (10 ∷ []))) (whole_none text w))
whole_longer b (l ∷ ls) text w = whole_more b (l ∷ ls) (longer b (l ∷ ls)) text refl w

lines_whole : (text : List ℕ) → Whole (lines text) text
lines_whole [] = inl refl
lines_whole (b ∷ bs) =
    let w = lines_whole bs in
    elim (eqb b 10) as (λ t. eqb b 10 ≡ t → Whole (cond t ([] ∷ lines bs) (longer b (lines bs))) (b ∷ bs)) [
      | true ↦ λ e. whole_more b (lines bs) ([] ∷ lines bs) bs (ap (λ x. x ∷ ended (lines bs)) (sym (eqb-true b 10 e))) w
      | false ↦ λ e. whole_longer b (lines bs) bs w
    ]
    refl

pub lines_rejoin_lem : LinesRejoin
lines_rejoin_lem text = record { clean = λ l m. clean_each l (lines text) (lines_clean text) m; whole = lines_whole text }
