-- A refusal comes first where no refusal with a lower number has its condition: the conditions, one by one.
use Rattle.std.proofs.Common.{◌≡◌, ℕ, ◌<◌, List, [], ◌∷◌, length, refl, ⊎_elim, arith}
use Rattle.text.specs.Causes.{number_of}
use Rattle.records.specs.Forms.{Unfit, Deep}
use Rattle.records.specs.Fields.{wrong_count, field_refusal}
use Rattle.records.specs.Judging.{Leftmost, FieldBreaks, FirstBreak}
use Rattle.records.specs.declared.form.Form.{Form}
use Rattle.text.specs.declared.cause.LineCause.TheVariants.{TextTooLong, LineTooLong, BadByte, UnknownKind, WrongState, WrongCount}
use Rattle.text.specs.declared.cause.FieldCause.TheVariants.{Broken, TooDeep, WrongTotal}
use Rattle.text.specs.declared.cause.Layer.{Layer}
use Rattle.text.specs.declared.cause.Layer.TheVariants.{Field, Line, Book}

-- no condition on the fields below number n holds, where the three of them do not
none_below : (start : ℕ) (ks : List Form) (fs : List (List ℕ)) (at n : ℕ)
    → (8 < n → length fs ≡ length ks)
    → (9 < n → (place : ℕ) → Leftmost Unfit ks fs at place → ⊥)
    → (10 < n → (place : ℕ) → Leftmost Deep ks fs at place → ⊥)
    → (c : Layer) (place : ℕ) → number_of c < n → FieldBreaks start ks fs at c place → ⊥
none_below start ks fs at n count form deep (Line TextTooLong) place h b = b
none_below start ks fs at n count form deep (Line LineTooLong) place h b = b
none_below start ks fs at n count form deep (Line BadByte) place h b = b
none_below start ks fs at n count form deep (Line UnknownKind) place h b = b
none_below start ks fs at n count form deep (Line WrongState) place h b = b
none_below start ks fs at n count form deep (Line WrongCount) place h b = b.0 (count h)
none_below start ks fs at n count form deep (Field Broken) place h b = form h place b.1
none_below start ks fs at n count form deep (Field TooDeep) place h b = deep h place b.1
none_below start ks fs at n count form deep (Field WrongTotal) place h b = b
none_below start ks fs at n count form deep (Book c) place h b = b

pub count_first : (start : ℕ) (ks : List Form) (fs : List (List ℕ)) (at : ℕ) → (length fs ≡ length ks → ⊥)
    → FirstBreak (FieldBreaks start ks fs at) (wrong_count start)
count_first start ks fs at ne =
    record {
      breaks = (ne, refl);
      first = none_below start ks fs at 8 (λ h. omega arith) (λ h. omega arith) (λ h. omega arith);
    }

pub broken_first : (start : ℕ) (ks : List Form) (fs : List (List ℕ)) (at place : ℕ) → length fs ≡ length ks → Leftmost Unfit ks fs at place
    → FirstBreak (FieldBreaks start ks fs at) (field_refusal Broken place)
broken_first start ks fs at place e l =
    record { breaks = (e, l); first = none_below start ks fs at 9 (λ h. e) (λ h. omega arith) (λ h. omega arith) }

pub deep_first : (start : ℕ) (ks : List Form) (fs : List (List ℕ)) (at place : ℕ) → length fs ≡ length ks
    → ((p : ℕ) → Leftmost Unfit ks fs at p → ⊥) → Leftmost Deep ks fs at place → FirstBreak (FieldBreaks start ks fs at) (field_refusal TooDeep place)
deep_first start ks fs at place e fit l =
    record { breaks = (e, l); first = none_below start ks fs at 10 (λ h. e) (λ h. fit) (λ h. omega arith) }

-- none of one field, and none of two, is bad
pub none_of_one : (Bad : Form → List ℕ → Type 0) (k : Form) (f : List ℕ) (at : ℕ) → (Bad k f → ⊥)
    → (place : ℕ) → Leftmost Bad (k ∷ []) (f ∷ []) at place → ⊥
none_of_one Bad k f at good place = ⊎_elim (λ b. good b.0) (λ b. b.1)

pub none_of_two : (Bad : Form → List ℕ → Type 0) (k l : Form) (f g : List ℕ) (at : ℕ) → (Bad k f → ⊥) → (Bad l g → ⊥)
    → (place : ℕ) → Leftmost Bad (k ∷ l ∷ []) (f ∷ g ∷ []) at place → ⊥
none_of_two Bad k l f g at good fine place = ⊎_elim (λ b. good b.0) (λ b. none_of_one Bad l g _ fine place b.1)
