-- What the rows of nodes say as shapes, and what tables say that are made of one value.
use Rattle.std.proofs.Common.{◌≡◌, ℕ, ◌<◌, Bool, true, false, cond, List, [], Option, None, is_some, length, get_or, replicate, refl, sym, ap, ◌∙◌, arith}
use native.Mathlib.Decide.{dec_lt}
use Rattle.std.proofs.lemmas.Bool.{both_ways}
use Rattle.std.proofs.lemmas.List.{length-replicate, get_or-map, get_or_past, get_or-replicate}
use Rattle.theory.specs.Names.{Name}
use Rattle.theory.specs.Tables.{atom, shape_at}
use Rattle.book.specs.declared.row.Row.{Row}
use Rattle.book.specs.declared.id.Parts.{Parts}
use Rattle.book.specs.declared.id.Parts.TheVariants.{Zero, One, Two}
use Rattle.book.specs.Rows.{class, shape, shape_of, bare, absent}
use Rattle.pricing.specs.Nodes.{table, shape_over, chosen_at, settled, ready_by, ready_at}

pub shape_here : (xs : List Row) (i : ℕ) → i < length xs → shape_at (table xs) i ≡ shape xs i
shape_here xs i h = get_or-map (λ (r : Row). shape_of bare r.node) xs i absent (atom []) h

-- what is read off one value many times, past the end too
pub same_all : {A : Type 0} (n k : ℕ) (a : A) → get_or (replicate n a) k a ≡ a
same_all n k a = go (dec_lt k n)
  where
    go : Dec (k < n) → get_or (replicate n a) k a ≡ a
    go (yes l) = get_or-replicate n k a a l
    go (no l) = get_or_past (replicate n a) k a (omega (arith, length-replicate n a))

-- while nothing is settled only nodes without parts are ready
pub leaf_ready : (xs : List Row) (ch : List (Option ℕ)) (i : ℕ) (x : Name) (parts : Parts) → ((k : ℕ) → chosen_at ch k ≡ None)
    → shape_at (table xs) i ≡ shape_over x parts → ready_at xs ch i ≡ true → parts ≡ Zero
leaf_ready xs ch i x parts clear e r = go parts (sym (ap (ready_by f) e) ∙ r)
  where
    f : ℕ → Bool
    f p = settled ch (class xs p)

    low : (p : ℕ) → f p ≡ false
    low p = ap is_some (clear (class xs p))

    go : (ps : Parts) → ready_by f (shape_over x ps) ≡ true → ps ≡ Zero
    go Zero h = refl
    go (One p) h = absurd (both_ways (f p.0) (low p.0) h)
    go (Two p q) h = absurd (both_ways (cond (f p.0) (f q.0) false) (ap (λ (b : Bool). cond b (f q.0) false) (low p.0)) h)
