-- Lemmas on printed rows: their length, and how writing each field with a space behind it makes one.
use Rattle.std.proofs.Common.{◌≡◌, ℕ, ◌+◌, ◌-◌, ◌<◌, ◌≤◌, max, List, [], ◌∷◌, ◌++◌, length, get_or, take, drop, set, sym, refl, ap, ◌∙◌, arith, Bor}
use borrow.Rule.Slice.PartMut.{put_mid}
use Rattle.std.proofs.lemmas.List.{append_assoc, append-nil, length-append, length-take-le, take-append-drop, take_at, drop_at, set_at, drop-drop, drop_more, at_drop_more, at_drop_all}
use Rattle.report.specs.Rows.{texts, parted, row, Written}

-- each field with a space behind it
abbrev pub spaced : List (List ℕ) → List ℕ
spaced [] = []
spaced (f ∷ fs) = f ++ (32 ∷ spaced fs)

-- the last space of the spaced fields stands where the row has its line feed
spaced_parted : (f : List ℕ) (fs : List (List ℕ)) → spaced (f ∷ fs) ≡ parted (f ∷ fs) ++ (32 ∷ [])
spaced_parted f [] = refl
spaced_parted f (g ∷ fs) =
    ap (λ t. f ++ (32 ∷ t)) (spaced_parted g fs) ∙ sym (append_assoc f (32 ∷ parted (g ∷ fs)) (32 ∷ []))

length_row : (f : List ℕ) (fs : List (List ℕ)) → length (row (f ∷ fs)) ≡ length (spaced (f ∷ fs))
length_row f fs =
    length-append (parted (f ∷ fs)) (10 ∷ []) ∙ sym (ap length (spaced_parted f fs) ∙ length-append (parted (f ∷ fs)) (32 ∷ []))

pub row_some : (fs : List (List ℕ)) → 1 ≤ length (row fs)
row_some fs = omega (arith, length-append (parted fs) (10 ∷ []))

pub spaced_le : (fs : List (List ℕ)) → length (spaced fs) ≤ length (row fs)
spaced_le [] = omega arith
spaced_le (f ∷ fs) = omega (arith, length_row f fs)

-- a row without fields has a line feed all the same
pub row_max : (fs : List (List ℕ)) → max (length (spaced fs)) 1 ≡ length (row fs)
row_max [] = refl
row_max (f ∷ fs) = omega (arith, length_row f fs, row_some (f ∷ fs))

-- a field as the code reads it, the bytes of the reference at a place
abbrev pub absent : Bor (List ℕ)
absent = record { ref_ptr = (0, 0); now = [] }

abbrev pub field : List (Bor (List ℕ)) → ℕ → List ℕ
field xs i = (get_or xs i absent).now

-- the fields from a place onwards, one on and at the end
abbrev pub ahead : List (Bor (List ℕ)) → ℕ → List ℕ
ahead xs i = spaced (texts (drop i xs))

pub ahead_more : (xs : List (Bor (List ℕ))) (i : ℕ) → i < length xs → ahead xs i ≡ field xs i ++ (32 ∷ ahead xs (i + 1))
ahead_more xs i h = at_drop_more (λ ys. spaced (texts ys)) xs i absent h

pub length_ahead_more : (xs : List (Bor (List ℕ))) (i : ℕ) → i < length xs →
    length (ahead xs i) ≡ length (field xs i) + 1 + length (ahead xs (i + 1))
length_ahead_more xs i h =
    let e = ap length (ahead_more xs i h) in
    omega (arith, length-append (field xs i) (32 ∷ ahead xs (i + 1)))

pub ahead_all : (xs : List (Bor (List ℕ))) (i : ℕ) → length xs ≤ i → ahead xs i ≡ []
ahead_all xs i h = at_drop_all (λ ys. spaced (texts ys)) xs i h

-- a row that fits has room for its next field and the space behind it
pub room_ahead : (xs : List (Bor (List ℕ))) (i at room : ℕ) → i < length xs →
    at + length (ahead xs i) ≡ length (spaced (texts xs)) → length (row (texts xs)) ≤ room → at + length (field xs i) < room
room_ahead xs i at room h e fits = omega (arith, length_ahead_more xs i h, spaced_le (texts xs))

-- the buffer with one field and a space written at a place
abbrev pub put : List ℕ → ℕ → List ℕ → List ℕ
put old at f = take at old ++ (f ++ (32 ∷ drop (at + length f + 1) old))

pub put_made : (old f ys : List ℕ) (at k : ℕ) → ys ≡ f → k ≡ length f → at + length f < length old →
    set (put_mid at k old ys) (at + length f) 32 ≡ put old at f
put_made old f ys at k e n h =
    let y = get_or old (at + length f) 0 in
    let q = drop (at + length f + 1) old in
    let tail : drop k (drop at old) ≡ y ∷ q = drop-drop k at old ∙ ap (λ m. drop (at + m) old) n ∙ drop_more old (at + length f) 0 h in
    let whole : put_mid at k old ys ≡ (take at old ++ f) ++ (y ∷ q) =
    ap (λ t. take at old ++ (t ++ drop k (drop at old))) e ∙ ap (λ t. take at old ++ (f ++ t)) tail ∙ sym (append_assoc (take at old) f (y ∷ q)) in
    let t : length (take at old) ≡ at = length-take-le at old (omega arith) in
    let p : length (take at old ++ f) ≡ at + length f = omega (arith, length-append (take at old) f) in
    ap (λ t. set t (at + length f) 32) whole ∙ set_at (take at old ++ f) y q 32 (at + length f) p ∙ append_assoc (take at old) f (32 ∷ q)

-- the field and its space as one front, before any rest
fronted : (p f q : List ℕ) → p ++ (f ++ (32 ∷ q)) ≡ (p ++ (f ++ (32 ∷ []))) ++ q
fronted p f q = sym (append_assoc p (f ++ (32 ∷ [])) q ∙ ap (λ t. p ++ t) (append_assoc f (32 ∷ []) q))

length_fronted : (old f : List ℕ) (at : ℕ) → at + length f < length old → length (take at old ++ (f ++ (32 ∷ []))) ≡ at + (length f + 1)
length_fronted old f at h =
    let t : length (take at old) ≡ at = length-take-le at old (omega arith) in
    omega (arith, length-append (take at old) (f ++ (32 ∷ [])), length-append f (32 ∷ []))

-- a written field leaves less ahead
pub put_front : (old new f next rest all : List ℕ) (at : ℕ) → at + length f < length old → new ≡ put old at f →
    next ≡ f ++ (32 ∷ rest) → take at old ++ next ≡ all → take (at + (length f + 1)) new ++ rest ≡ all
put_front old new f next rest all at h n a e =
    let q = drop (at + length f + 1) old in
    let p = take at old ++ (f ++ (32 ∷ [])) in
    let front : take (at + (length f + 1)) new ≡ p =
    ap (λ t. take (at + (length f + 1)) t) (n ∙ fronted (take at old) f q) ∙ take_at p q (at + (length f + 1)) (length_fronted old f at h) in
    ap (λ t. t ++ rest) front ∙ sym (fronted (take at old) f rest) ∙ ap (λ t. take at old ++ t) (sym a) ∙ e

-- and nothing behind it changed
pub put_back : (first old new f : List ℕ) (at : ℕ) → at + length f < length old → new ≡ put old at f →
    drop at old ≡ drop at first → drop (at + (length f + 1)) new ≡ drop (at + (length f + 1)) first
put_back first old new f at h n e =
    let q = drop (at + length f + 1) old in
    let p = take at old ++ (f ++ (32 ∷ [])) in
    let k : at + length f + 1 ≡ at + (length f + 1) = omega arith in
    let back : drop (at + (length f + 1)) new ≡ q =
    ap (λ t. drop (at + (length f + 1)) t) (n ∙ fronted (take at old) f q) ∙ drop_at p q (at + (length f + 1)) (length_fronted old f at h) in
    back ∙ ap (λ m. drop m old) k ∙ sym (drop-drop (length f + 1) at old) ∙ ap (λ t. drop (length f + 1) t) e ∙ drop-drop (length f + 1) at first

-- a line feed over the last space makes the row
ended : (fs : List (List ℕ)) (old : List ℕ) → length (row fs) ≤ length old →
    Written old (set (spaced fs ++ drop (length (spaced fs)) old) (length (row fs) - 1) 10) (row fs)
ended [] [] h = absurd (omega arith)
ended [] (x ∷ old) h = refl
ended (f ∷ fs) old h =
    let p = parted (f ∷ fs) in
    let q = drop (length (spaced (f ∷ fs))) old in
    let n : length p ≡ length (row (f ∷ fs)) - 1 = omega (arith, length-append p (10 ∷ [])) in
    let a = ap (λ t. set (t ++ q) (length (row (f ∷ fs)) - 1) 10) (spaced_parted f fs) in
    let b = ap (λ t. set t (length (row (f ∷ fs)) - 1) 10) (append_assoc p (32 ∷ []) q) in
    let d = set_at p 32 q 10 (length (row (f ∷ fs)) - 1) n in
    let e = sym (append_assoc p (10 ∷ []) q) in
    let g = ap (λ k. row (f ∷ fs) ++ drop k old) (sym (length_row f fs)) in
    a ∙ b ∙ d ∙ e ∙ g

-- once all fields are written
pub printed : (fs : List (List ℕ)) (old out rest : List ℕ) (at len : ℕ) → rest ≡ [] → take at out ++ rest ≡ spaced fs →
    at + length rest ≡ length (spaced fs) → drop at out ≡ drop at old → len ≡ length (row fs) → len ≤ length old →
    Written old (set out (len - 1) 10) (row fs)
printed fs old out rest at len none front place back n h =
    let f : take at out ≡ spaced fs = sym (append-nil (take at out)) ∙ ap (λ t. take at out ++ t) (sym none) ∙ front in
    let m : at ≡ length (spaced fs) = omega (arith, ap length none) in
    let whole : out ≡ spaced fs ++ drop (length (spaced fs)) old =
    sym (take-append-drop at out) ∙ ap (λ t. t ++ drop at out) f ∙ ap (λ t. spaced fs ++ t) (back ∙ ap (λ k. drop k old) m) in
    let fits : length (row fs) ≤ length old = omega arith in
    ap (λ t. set t (len - 1) 10) whole ∙ ap (λ k. set (spaced fs ++ drop (length (spaced fs)) old) (k - 1) 10) n ∙ ended fs old fits
