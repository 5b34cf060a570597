-- What a search over a range of numbers finds, by a closure that each call leaves as it was.
use Rattle.std.proofs.Common.{◌≡◌, ℕ, ◌+◌, ◌-◌, ◌<◌, ◌≤◌, ◌⊎◌, inl, inr, Bool, true, false, List, [], ◌∷◌, Some, None, Option, IfSome, IsSomeAnd, IsTrue, MatchOption, sym, ap, ◌∙◌, subst, arith, Bor}
use Rattle.std.proofs.lemmas.Bool.{cases_eq}
use denote.Param.Members.{Mut}
use Rattle.std.specs.declared.ops.Range.{Range}
use Rattle.std.specs.Fn.{Called, CalledAt}
use Rattle.std.specs.Iterator.{Yields, FindsItem, ChecksAll}
use Rattle.std.specs.Bool.{MatchBool}
use Rattle.std.specs.Iterator.Runs.{SomeRun, CallKeepsClosure, AllItemsGive, IsFirstToGive}
use Rattle.std.specs.Option.{option_map}
use Rattle.std.specs.List.{FoldsTo}
use Rattle.std.proofs.iter.Yields.{nat_range_steps}
use Rattle.std.proofs.iter.runs.Sources.{range_runs}

-- the numbers passed over are missed, and the closure is as it was
record Walked {F : Type 0} (f j : F) (Miss : ℕ → Type 0) (s t : Range ℕ) : Type 0 where
  pub same : j ≡ f
  pub on : s.start ≤ t.start
  pub end : t.end ≡ s.end
  pub missed : (k : ℕ) → s.start ≤ k → k < t.start → Miss k

module _ {F : Type 0} (R : F → ℕ → F → Type 0) (f : F) (Miss : ℕ → Type 0) (passes : (x : ℕ) (q : F) → R f x q → (q ≡ f) × Miss x) where
  walked : (xs : List ℕ) (s t : Range ℕ) (j : F) → Yields nat_range_steps s xs t → FoldsTo R f xs j → Walked f j Miss s t
  walked [] s t j y c =
      let e = ap (λ (r : Range ℕ). r.start) y in
      record { same = sym c; on = omega (arith, e); end = ap (λ (r : Range ℕ). r.end) (sym y); missed = λ k l h. absurd (omega (arith, e)) }
  walked (x ∷ xs) s t j y c =
      let p = passes x c.0 c.1 in
      let W = walked xs y.0 t j y.2 (subst (λ (q : F). FoldsTo R q xs j) p.0 c.2) in
      let e : x ≡ s.start = y.1.1.1 in
      let n : y.0.start ≡ s.start + 1 = y.1.1.2 in
      record {
        same = W.same;
        on = omega (arith, W.on);
        end = W.end ∙ y.1.0;
        missed = λ k l h. go k (cases_eq k x) p.1 (λ m. W.missed k m h) l;
      }
    where
      go : (k : ℕ) → (k ≡ x) ⊎ (k ≡ x → ⊥) → Miss x → (y.0.start ≤ k → Miss k) → s.start ≤ k → Miss k
      go k (inl e) m g l = subst Miss (sym e) m
      go k (inr e) m g l = let a : x ≡ s.start = y.1.1.1 in let b : y.0.start ≡ s.start + 1 = y.1.1.2 in g (omega arith)

-- what `find` gave of the range s, and left of it
pub record Found (Hit Miss : ℕ → Type 0) (s u : Range ℕ) (x : ℕ) : Type 0 where
  pub from : s.start ≤ x
  pub within : x < s.end
  pub hit : Hit x
  pub missed : (k : ℕ) → s.start ≤ k → k < x → Miss k
  pub rest : u.start ≡ x + 1
  pub end : u.end ≡ s.end

pub record NotFound (Miss : ℕ → Type 0) (s u : Range ℕ) : Type 0 where
  pub missed : (k : ℕ) → s.start ≤ k → k < s.end → Miss k
  pub rest : u.end - u.start ≡ 0
  pub end : u.end ≡ s.end

module _ {F : Type 0} (g : Mut F (Bor ℕ × Unit {0}) Bool) (f : F) (Hit Miss : ℕ → Type 0)
    (hits : (x : ℕ) (q : F) → CalledAt g f x true q → Hit x) (misses : (x : ℕ) (q : F) → CalledAt g f x false q → (q ≡ f) × Miss x) where
  pub found : (s u : Range ℕ) (r : Option ℕ) → FindsItem nat_range_steps g s f r u → MatchOption r (NotFound Miss s u) (Found Hit Miss s u)
  found s u None (xs, j, (t, y, z), c, h) =
      let W = walked (λ p x q. CalledAt g p x false q) f Miss misses xs s t j y c in
      record { missed = λ k l m. W.missed k l (omega (arith, W.end, z.1.0)); rest = omega (arith, z.0, z.1.0, z.1.1); end = z.0 ∙ W.end }
  found s u (Some x) (xs, j, (t, y, z), c, h) =
      let W = walked (λ p x q. CalledAt g p x false q) f Miss misses xs s t j y c in
      let e : x ≡ t.start = z.1.1 in
      record {
        from = omega (arith, W.on);
        within = omega (arith, W.end, z.1.0);
        hit = hits x h.0 (subst (λ (q : F). CalledAt g q x true h.0) W.same h.1);
        missed = λ k l m. W.missed k l (omega arith);
        rest = omega (arith, z.1.2);
        end = z.0 ∙ W.end;
      }

-- what `all` gave
module _ {F : Type 0} (g : Mut F (ℕ × Unit {0}) Bool) (f : F) (Yes No : ℕ → Type 0)
    (passes : (x : ℕ) (q : F) → Called g f (x, tt) true q → (q ≡ f) × Yes x) (fails : (x : ℕ) (q : F) → Called g f (x, tt) false q → No x) where
  pub checked : (s u : Range ℕ) (r : Bool) → ChecksAll nat_range_steps g s f r u
      → MatchBool r ((k : ℕ) → s.start ≤ k → k < s.end → Yes k) ((k : ℕ) × (s.start ≤ k) × (k < s.end) × No k)
  checked s u r (xs, o, j, (t, y, z), c, h) = go o r z h
    where
      W : Walked f j Yes s t
      W = walked (λ p x q. Called g p (x, tt) true q) f Yes passes xs s t j y c

      go : (o : Option ℕ) (r : Bool) → nat_range_steps t o u → MatchOption o (r ≡ true) (λ x. (r ≡ false) × ((q : F) × Called g j (x, tt) false q))
          → MatchBool r ((k : ℕ) → s.start ≤ k → k < s.end → Yes k) ((k : ℕ) × (s.start ≤ k) × (k < s.end) × No k)
      go None true z h = λ k l m. W.missed k l (omega (arith, W.end, z.1.0))
      go None false z h = absurd (cc)
      go (Some x) true z h = absurd (cc)
      go (Some x) false z h =
          (x, omega (arith, W.on, z.1.1), omega (arith, W.end, z.1.0, z.1.1), fails x h.1.0 (subst (λ (q : F). Called g q (x, tt) false h.1.0) W.same h.1.1))

at_place : (o : Option ℕ) (k : ℕ) (P : ℕ → Type 0) → option_map (λ y. y) o ≡ Some k → IfSome o P → P k
at_place None k P e h = absurd (cc)
at_place (Some x) k P e h = let d : x ≡ k = cc in subst P d h

some_place : (o : Option ℕ) (k : ℕ) (P : ℕ → Type 0) → option_map (λ y. y) o ≡ Some k → IsSomeAnd o P → P k
some_place None k P e h = absurd h
some_place (Some x) k P e h = let d : x ≡ k = cc in subst P d h

-- what `find_map` gave
module _ {F B : Type 0} (g : Mut F (ℕ × Unit {0}) (Option B)) (f : F) (keeps : CallKeepsClosure g f) (Hit : ℕ → B → Type 0) (Miss : ℕ → Type 0)
    (hits : (x : ℕ) (r : B) → Called g f (x, tt) (Some r) f → Hit x r) (misses : (x : ℕ) → Called g f (x, tt) None f → Miss x) where
  pub mapped : (s : Range ℕ) (r : Option B)
      → SomeRun nat_range_steps s (λ p. MatchOption r (IsTrue p.whole × AllItemsGive p g f None) (λ y. (i : ℕ) × (i < p.len) × (p.len ≡ i + 1) × IsFirstToGive p g f (Some y) None i))
      → MatchOption r ((k : ℕ) → s.start ≤ k → k < s.end → Miss k) (λ b. (k : ℕ) × (s.start ≤ k) × (k < s.end) × Hit k b)
  mapped s None (p, e, (w, h)) = λ k l m.
      let N = range_runs p p.seen in
      let a : p.from.start ≡ s.start = ap (λ (t : Range ℕ). t.start) e in
      let b : p.from.end ≡ s.end = ap (λ (t : Range ℕ). t.end) e in
      let z : p.len ≡ p.from.end - p.from.start = N.1 w in
      let d : p.from.start + (k - s.start) ≡ k = omega arith in
      subst Miss d (misses _ (at_place (p.at (k - s.start)) _ (λ x. Called g f (x, tt) None f) (N.3 (k - s.start) (omega arith)) (h keeps (k - s.start))))
  mapped s (Some y) (p, e, (i, l, z, h)) =
      let N = range_runs p p.seen in
      let a : p.from.start ≡ s.start = ap (λ (t : Range ℕ). t.start) e in
      let b : p.from.end ≡ s.end = ap (λ (t : Range ℕ). t.end) e in (
        p.from.start + i,
        omega arith,
        omega (arith, N.0),
        hits _ y (some_place (p.at i) _ (λ x. Called g f (x, tt) (Some y) f) (N.3 i l) (h keeps).0),
      )
