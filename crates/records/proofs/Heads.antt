-- From the fields behind a kind word to the whole line: what is granted, and which refusal comes first.
use Rattle.std.proofs.Common.{◌≡◌, ℕ, ◌+◌, ◌-◌, ◌*◌, ◌<◌, ◌≤◌, ◌≢◌, cond, eqb, List, ◌∷◌, length, get_or, take, drop, Some, None, Option, Ok, Err, Result, MatchOption, sym, refl, ap, ◌∙◌, subst, arith, MatchResult}
use Rattle.std.proofs.lemmas.List.{take_rest}
use Rattle.std.specs.Option.{ok_or}
use Rattle.text.specs.Causes.{number_of}
use Rattle.text.specs.Kinds.{word}
use Rattle.records.specs.Forms.{forms}
use Rattle.records.specs.Fields.{field, fields, after}
use Rattle.records.specs.Judging.{longest_line, FirstBad, FieldBreaks, BreaksBehind, Breaks, FirstBreak, Unbroken}
use Rattle.records.specs.Records.{Headed, Granted, Reads}
use Rattle.text.specs.declared.kind.Kind.{Kind}
use Rattle.text.specs.declared.kind.Kind.TheVariants as kind
use Rattle.text.specs.declared.cause.LineCause.TheVariants.{TextTooLong, LineTooLong, BadByte, UnknownKind, WrongState, WrongCount}
use Rattle.text.specs.declared.cause.FieldCause.TheVariants.{Broken, TooDeep, WrongTotal}
use Rattle.text.specs.declared.cause.Layer.{Layer}
use Rattle.text.specs.declared.cause.Layer.TheVariants.{Field, Line, Book}
use Rattle.records.specs.declared.record.Record.{Record}
use Rattle.text.specs.declared.refusal.Refusal.{Refusal}
use Rattle.records.proofs.Splits.{fields_split, next_within}

-- two kinds do not have one word: its first two letters tell the kind
abbrev told : List ℕ → Kind
told w =
    let n = get_or w 0 0 * 100 + get_or w 1 0 in
    cond (eqb n 7679) kind.Log
    (cond (eqb n 7076) kind.Flex
    (cond (eqb n 6978) kind.End
    (cond (eqb n 8372) kind.Sheet
    (cond (eqb n 6779) kind.Cost
    (cond (eqb n 8384) kind.Stock
    (cond (eqb n 8065) kind.Pair kind.Best))))))

told_word : (k : Kind) → told (word k) ≡ k
told_word kind.Log = refl
told_word kind.Flex = refl
told_word kind.End = refl
told_word kind.Sheet = refl
told_word kind.Cost = refl
told_word kind.Stock = refl
told_word kind.Pair = refl
told_word kind.Best = refl

pub one_kind : (k l : Kind) → word k ≡ word l → k ≡ l
one_kind k l e = sym (told_word k) ∙ ap told e ∙ told_word l

-- the fields of a line of a known kind break as the whole line does
pub behind : (start : ℕ) (xs : List ℕ) (k : Kind) (fs : List (List ℕ)) → fields xs ≡ word k ∷ fs → (c : Layer) (place : ℕ)
    → BreaksBehind start xs c place → FieldBreaks start (forms k) fs (start + length (word k) + 1) c place
behind start xs k fs e c place b =
    let w : word k ∷ fs ≡ word b.0 ∷ b.1 = sym e ∙ b.2 in
    let kinds : b.0 ≡ k = one_kind b.0 k (cc) in
    let rest : b.1 ≡ fs = cc in
    let P : Kind → Type 0 = λ l. FieldBreaks start (forms l) fs (start + length (word l) + 1) c place in
    let Q : List (List ℕ) → Type 0 = λ gs. FieldBreaks start (forms b.0) gs (start + length (word b.0) + 1) c place in
    subst P kinds (subst Q rest b.3)

raised : (start : ℕ) (xs : List ℕ) (k : Kind) (fs : List (List ℕ)) → fields xs ≡ word k ∷ fs → (c : Layer) (place : ℕ)
    → FieldBreaks start (forms k) fs (start + length (word k) + 1) c place → Breaks start xs c place
raised start xs k fs e (Line TextTooLong) place b = b
raised start xs k fs e (Line LineTooLong) place b = absurd b
raised start xs k fs e (Line BadByte) place b = absurd b
raised start xs k fs e (Line UnknownKind) place b = absurd b
raised start xs k fs e (Line WrongState) place b = b
raised start xs k fs e (Line WrongCount) place b = (k, fs, e, b)
raised start xs k fs e (Field Broken) place b = (k, fs, e, b)
raised start xs k fs e (Field TooDeep) place b = (k, fs, e, b)
raised start xs k fs e (Field WrongTotal) place b = b
raised start xs k fs e (Book c) place b = b

-- whatever condition holds of a line of a known kind, holds of its fields
lowered : (start : ℕ) (xs : List ℕ) (k : Kind) → Headed start xs k → (c : Layer) (place : ℕ) → Breaks start xs c place
    → FieldBreaks start (forms k) (after (drop (length (word k)) xs)) (start + length (word k) + 1) c place
lowered start xs k h (Line TextTooLong) place b = b
lowered start xs k h (Line LineTooLong) place b = omega (arith, h.short, b.0)
lowered start xs k h (Line BadByte) place b = h.clean place b
lowered start xs k h (Line UnknownKind) place b = b.0 k _ h.headed
lowered start xs k h (Line WrongState) place b = b
lowered start xs k h (Line WrongCount) place b = behind start xs k _ h.headed (Line WrongCount) place b
lowered start xs k h (Field Broken) place b = behind start xs k _ h.headed (Field Broken) place b
lowered start xs k h (Field TooDeep) place b = behind start xs k _ h.headed (Field TooDeep) place b
lowered start xs k h (Field WrongTotal) place b = b
lowered start xs k h (Book c) place b = b

-- what the first field says of a line that is neither too long nor has a bad byte
below_unknown : (start : ℕ) (xs : List ℕ) → length xs ≤ longest_line → ((place : ℕ) → FirstBad start xs place → ⊥)
    → (c : Layer) (place : ℕ) → number_of c < 6 → Breaks start xs c place → ⊥
below_unknown start xs short clean (Line TextTooLong) place h b = b
below_unknown start xs short clean (Line LineTooLong) place h b = omega (arith, b.0)
below_unknown start xs short clean (Line BadByte) place h b = clean place b
below_unknown start xs short clean (Line UnknownKind) place h b = omega arith
below_unknown start xs short clean (Line WrongState) place h b = b
below_unknown start xs short clean (Line WrongCount) place h b = omega arith
below_unknown start xs short clean (Field Broken) place h b = omega arith
below_unknown start xs short clean (Field TooDeep) place h b = omega arith
below_unknown start xs short clean (Field WrongTotal) place h b = b
below_unknown start xs short clean (Book c) place h b = b

pub kind_told : (start : ℕ) (xs w : List ℕ) (l : Layer) (o : Option Kind) (r : Result Kind Refusal) → length xs ≤ longest_line
    → ((place : ℕ) → FirstBad start xs place → ⊥) → w ≡ field xs → l ≡ Line UnknownKind
    → MatchOption o ((k : Kind) → w ≢ word k) (λ k. w ≡ word k) → r ≡ ok_or o (record { layer = l; place = start })
    → MatchResult r (Headed start xs) (FirstBreak (Breaks start xs))
kind_told start xs w l (Some k) r short clean d u m e =
    let f : field xs ≡ word k = sym d ∙ m in
    rw e (
    record {
      short = short;
      clean = clean;
      within = omega (arith, ap length f, next_within xs (field xs) refl);
      headed = fields_split xs ∙ ap (λ t. t ∷ after (drop (length t) xs)) f;
    }
    )
kind_told start xs w l None r short clean d u m e =
    rw (e, u) (
    record {
      breaks = (λ k fs g. let t = fields_split xs in m k (let q : field xs ≡ word k = cc in d ∙ q), refl);
      first = below_unknown start xs short clean;
    }
    )

-- the answer for the fields is the answer for the line
pub whole_line : (start : ℕ) (xs : List ℕ) (k : Kind) (n : ℕ) → n ≡ length (word k) → Headed start xs k → (r : Result Record Refusal)
    → MatchResult r (Granted start k (after (take (length xs - n) (drop n xs)))) (FirstBreak (FieldBreaks start (forms k) (after (take (length xs - n) (drop n xs))) (start + n + 1)))
    → MatchResult r (λ d. Reads start xs d × Unbroken (Breaks start xs)) (FirstBreak (Breaks start xs))
whole_line start xs k n e h (Ok d) g =
    let P : ℕ → Type 0 = λ m. Granted start k (after (take (length xs - m) (drop m xs))) d in
    let Q : List ℕ → Type 0 = λ ys. Granted start k (after ys) d in
    let f = subst Q (take_rest xs (length (word k))) (subst P e g) in
    (record { whole = h.headed ∙ f.whole; placed = f.placed; meant = f.meant }, λ c place b. f.unbroken c place (lowered start xs k h c place b))
whole_line start xs k n e h (Err x) g =
    let P : ℕ → Type 0 = λ m. FirstBreak (FieldBreaks start (forms k) (after (take (length xs - m) (drop m xs))) (start + m + 1)) x in
    let Q : List ℕ → Type 0 = λ ys. FirstBreak (FieldBreaks start (forms k) (after ys) (start + length (word k) + 1)) x in
    let f = subst Q (take_rest xs (length (word k))) (subst P e g) in
    record {
      breaks = raised start xs k _ h.headed x.layer x.place f.breaks;
      first = λ c place lt b. f.first c place lt (lowered start xs k h c place b);
    }
