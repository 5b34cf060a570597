-- The longest front of name bytes: a lawful name in front of another byte is that front, and the rest is the rest.
use Rattle.std.proofs.Common.{◌≡◌, ℕ, zero, suc, ◌<◌, ◌≤◌, true, false, cond, List, [], ◌∷◌, ◌++◌, length, get_or, drop, sym, refl, ap, ◌∙◌, not-suc-le-zero, arith}
use mathlib.Core.List.{append_cancel_left}
use Rattle.theory.specs.Names.{Name, IsName, letter, name_byte}
use Rattle.theory.specs.Fronts.{name_run}

-- a text is its run and what is left
pub run_split : (xs : List ℕ) → xs ≡ name_run xs ++ drop (length (name_run xs)) xs
run_split [] = refl
run_split (b ∷ bs) =
    elim (name_byte b) as (λ t. b ∷ bs ≡ cond t (b ∷ name_run bs) [] ++ drop (length (cond t (b ∷ name_run bs) [])) (b ∷ bs))
    [ true ↦ ap (λ r. b ∷ r) (run_split bs) | false ↦ refl ]

-- what is left begins with no name byte
pub run_rest : (xs : List ℕ) → name_run (drop (length (name_run xs)) xs) ≡ []
run_rest [] = refl
run_rest (b ∷ bs) =
    elim (name_byte b) as (λ t. name_byte b ≡ t → name_run (drop (length (cond t (b ∷ name_run bs) [])) (b ∷ bs)) ≡ [])
    [ true ↦ λ e. run_rest bs | false ↦ λ e. rw e ] refl

-- a run is its own run
pub run_run : (xs : List ℕ) → name_run (name_run xs) ≡ name_run xs
run_run [] = refl
run_run (b ∷ bs) =
    elim (name_byte b) as (λ t. name_byte b ≡ t → name_run (cond t (b ∷ name_run bs) []) ≡ cond t (b ∷ name_run bs) [])
    [ true ↦ λ e. rw e (ap (λ r. b ∷ r) (run_run bs)) | false ↦ λ e. refl ] refl

-- name bytes alone in front of another byte are the run
pub run_append : (x ys : List ℕ) → name_run x ≡ x → name_run ys ≡ [] → name_run (x ++ ys) ≡ x
run_append [] ys p q = q
run_append (b ∷ bs) ys p q =
    elim (name_byte b) as (λ t. name_byte b ≡ t → cond t (b ∷ name_run bs) [] ≡ b ∷ bs → cond t (b ∷ name_run (bs ++ ys)) [] ≡ b ∷ bs)
    [ true ↦ λ e h. ap (λ r. b ∷ r) (run_append bs ys (cc) q) | false ↦ λ e h. h ] refl p

-- the run begins as the text does
pub run_first : (xs : List ℕ) → 1 ≤ length (name_run xs) → get_or (name_run xs) 0 0 ≡ get_or xs 0 0
run_first [] h = refl
run_first (b ∷ bs) h =
    elim (name_byte b) as (λ t. 1 ≤ length (cond t (b ∷ name_run bs) []) → get_or (cond t (b ∷ name_run bs) []) 0 0 ≡ b)
    [ true ↦ λ q. refl | false ↦ λ q. omega arith ] h

-- every byte of a run is a name byte
pub run_bytes : (xs : List ℕ) (k : ℕ) → k < length (name_run xs) → name_byte (get_or (name_run xs) k 0) ≡ true
run_bytes [] k h = absurd (not-suc-le-zero h)
run_bytes (b ∷ bs) k h =
    elim (name_byte b)
    as (λ t. name_byte b ≡ t → k < length (cond t (b ∷ name_run bs) []) → name_byte (get_or (cond t (b ∷ name_run bs) []) k 0) ≡ true)
    [ true ↦ λ e l. go e k l (λ i m. run_bytes bs i m) | false ↦ λ e l. absurd (not-suc-le-zero l) ] refl h
  where
    go : name_byte b ≡ true → (k : ℕ) → k < length (b ∷ name_run bs)
        → ((i : ℕ) → i < length (name_run bs) → name_byte (get_or (name_run bs) i 0) ≡ true)
        → name_byte (get_or (b ∷ name_run bs) k 0) ≡ true
    go e zero l rest = e
    go e (suc i) l rest = rest i (omega arith)

-- bytes that are all name bytes are their own run
pub run_full : (xs : List ℕ) → ((k : ℕ) → k < length xs → name_byte (get_or xs k 0) ≡ true) → name_run xs ≡ xs
run_full [] all = refl
run_full (b ∷ bs) all =
    let e : name_byte b ≡ true = all 0 (omega arith) in
    rw e (ap (λ r. b ∷ r) (run_full bs (λ k h. all (suc k) (omega arith))))

-- a lawful name is its own run
pub run_of_name : {x : Name} → IsName x → name_run x ≡ x
run_of_name {x} n = run_full x n.bytes

-- a run of 1 to 12 bytes that begins with a letter is a lawful name
pub name_of_run : (xs : List ℕ) → 1 ≤ length (name_run xs) → length (name_run xs) ≤ 12 → letter (get_or xs 0 0) ≡ true → IsName (name_run xs)
name_of_run xs some few first =
    record { some = some; few = few; bytes = run_bytes xs; first = ap letter (run_first xs some) ∙ first }

-- bytes that are their own run, 1 to 12, a letter first, are a lawful name
pub own_run_name : (x : List ℕ) → name_run x ≡ x → 1 ≤ length x → length x ≤ 12 → letter (get_or x 0 0) ≡ true → IsName x
own_run_name x own some few first =
    record { some = some; few = few; bytes = λ k h. ap (λ r. name_byte (get_or r k 0)) (sym own) ∙ run_bytes x k (rw own h); first = first }

-- a lawful name in front of what is no name byte is the run of the whole
pub name_before : {x : Name} (ys zs : List ℕ) → IsName x → name_run ys ≡ [] → zs ≡ x ++ ys → name_run zs ≡ x
name_before {x} ys zs n q e = ap name_run e ∙ run_append x ys (run_of_name n) q

-- two names in front of what are no name bytes are one name, and the rests are one rest
pub same_name : (x y ys zs : List ℕ) → name_run x ≡ x → name_run y ≡ y → name_run ys ≡ [] → name_run zs ≡ [] → x ++ ys ≡ y ++ zs → x ≡ y
same_name x y ys zs p q r s e = sym (run_append x ys p r) ∙ ap name_run e ∙ run_append y zs q s

pub same_rest : (x y ys zs : List ℕ) → name_run x ≡ x → name_run y ≡ y → name_run ys ≡ [] → name_run zs ≡ [] → x ++ ys ≡ y ++ zs → ys ≡ zs
same_rest x y ys zs p q r s e =
    let k : x ≡ y = same_name x y ys zs p q r s e in append_cancel_left x ys zs (e ∙ ap (λ w. w ++ zs) (sym k))
