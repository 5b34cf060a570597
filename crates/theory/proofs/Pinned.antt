-- The relations of the calls leave nothing open: two ways that a call can end with one book and the same arguments are one.
use Rattle.std.proofs.Common.{◌≡◌, ℕ, ◌<◌, Bool, List, ◌++◌, length, get_or, drop, sym, ap, ◌∙◌, subst, arith}
use Rattle.std.proofs.lemmas.List.{length_push, get_or_push, ext_get_or}
use Rattle.std.proofs.lemmas.Bool.{both_ways}
use Rattle.theory.specs.Names.{Name}
use Rattle.theory.specs.Builds.{Build, text}
use Rattle.theory.specs.Costs.{Cheaper, by_builds}
use Rattle.theory.specs.Stages.{choice_in}
use Rattle.theory.specs.Books.{Node, State, Book, Chosen, Lowest, IsNode, table, class, with_node, with_equation, with_choices}
use Rattle.theory.specs.Calls.{Answer, granted, Naming, Entering, Equating, Sameness, Classing, Pricing, Spelling, Naming.ill_formed, Naming.known as name_known, Naming.full as names_full, Naming.new as new_name, Entering.no_symbol, Entering.no_part, Entering.known as build_known, Entering.full as nodes_full, Entering.new as new_node, Equating.no_node as equating_no_node, Equating.full as equations_full, Equating.accepted, Sameness.no_node as not_both, Sameness.same as same_builds, Sameness.different, Classing.no_node as no_class, Classing.classed as class_of, Pricing.short, Pricing.settled, Spelling.no_node as no_spelling, Spelling.unpriced, Spelling.too_long, Spelling.written, Listing, Listing.no_node as no_listing, Listing.short as marks_short, Listing.too_long as too_many, Listing.written as all_listed}
use Rattle.theory.specs.Spelling.{Spelled}
use Rattle.theory.specs.Productions.{Production}
use Rattle.theory.specs.Pinned.{SameEnd, Pinned, PinnedLent}
use Rattle.theory.proofs.Stages.{one_way}
use Rattle.theory.proofs.Spelling.{spelled_once}
use Rattle.theory.proofs.Listings.{listed_once}

module _ (s : State) (B : Book s) where
  naming : (bs : Name) (w w' : Answer ℕ) (t t' : State) → Naming s bs w t → Naming s bs w' t' → SameEnd w t w' t'
  naming bs w w' t t' (ill_formed F1 a1 e1) (ill_formed F2 a2 e2) = (a1 ∙ sym a2, e1 ∙ sym e2)
  naming bs w w' t t' (ill_formed F1 a1 e1) (name_known F2 k2 h2 n2 a2 e2) = absurd (F1 F2)
  naming bs w w' t t' (ill_formed F1 a1 e1) (names_full F2 U2 r2 a2 e2) = absurd (F1 F2)
  naming bs w w' t t' (ill_formed F1 a1 e1) (new_name F2 U2 r2 a2 e2) = absurd (F1 F2)
  naming bs w w' t t' (name_known F1 k1 h1 n1 a1 e1) (ill_formed F2 a2 e2) = absurd (F2 F1)
  naming bs w w' t t' (name_known F1 k1 h1 n1 a1 e1) (name_known F2 k2 h2 n2 a2 e2) = (a1 ∙ ap granted (B.names_apart k1 k2 h1 h2 (n1 ∙ sym n2)) ∙ sym a2, e1 ∙ sym e2)
  naming bs w w' t t' (name_known F1 k1 h1 n1 a1 e1) (names_full F2 U2 r2 a2 e2) = absurd (U2 k1 h1 n1)
  naming bs w w' t t' (name_known F1 k1 h1 n1 a1 e1) (new_name F2 U2 r2 a2 e2) = absurd (U2 k1 h1 n1)
  naming bs w w' t t' (names_full F1 U1 r1 a1 e1) (ill_formed F2 a2 e2) = absurd (F2 F1)
  naming bs w w' t t' (names_full F1 U1 r1 a1 e1) (name_known F2 k2 h2 n2 a2 e2) = absurd (U1 k2 h2 n2)
  naming bs w w' t t' (names_full F1 U1 r1 a1 e1) (names_full F2 U2 r2 a2 e2) = (a1 ∙ sym a2, e1 ∙ sym e2)
  naming bs w w' t t' (names_full F1 U1 r1 a1 e1) (new_name F2 U2 r2 a2 e2) = absurd (omega arith)
  naming bs w w' t t' (new_name F1 U1 r1 a1 e1) (ill_formed F2 a2 e2) = absurd (F2 F1)
  naming bs w w' t t' (new_name F1 U1 r1 a1 e1) (name_known F2 k2 h2 n2 a2 e2) = absurd (U1 k2 h2 n2)
  naming bs w w' t t' (new_name F1 U1 r1 a1 e1) (names_full F2 U2 r2 a2 e2) = absurd (omega arith)
  naming bs w w' t t' (new_name F1 U1 r1 a1 e1) (new_name F2 U2 r2 a2 e2) = (a1 ∙ sym a2, e1 ∙ sym e2)

  same_class : (x : Node) (k j : ℕ) → Book (with_node s x k) → Book (with_node s x j) → k ≡ j
  same_class x k j K J =
      let i = length s.nodes in
      let h : IsNode (with_node s x k) i = omega (arith, length_push s.nodes x) in
      let a : class (with_node s x k) i ≡ k = get_or_push s.classes k 0 i B.classed in
      let b : class (with_node s x j) i ≡ j = get_or_push s.classes j 0 i B.classed in
      let L = subst (Lowest (with_node s x k) i) a (K.lowest i h) in
      let M = subst (Lowest (with_node s x j) i) b (J.lowest i h) in
      omega (arith, L.low j M.here M.alike, M.low k L.here L.alike)

  entering : (x : Node) (w w' : Answer ℕ) (t t' : State) → Entering s x w t → Entering s x w' t' → SameEnd w t w' t'
  entering x w w' t t' (no_symbol m1 a1 e1) (no_symbol m2 a2 e2) = (a1 ∙ sym a2, e1 ∙ sym e2)
  entering x w w' t t' (no_symbol m1 a1 e1) (no_part g2 m2 a2 e2) = absurd (m1 g2)
  entering x w w' t t' (no_symbol m1 a1 e1) (build_known P2 k2 h2 q2 a2 e2) = absurd (m1 P2.named)
  entering x w w' t t' (no_symbol m1 a1 e1) (nodes_full P2 U2 r2 a2 e2) = absurd (m1 P2.named)
  entering x w w' t t' (no_symbol m1 a1 e1) (new_node P2 U2 r2 a2 k2 e2 B2) = absurd (m1 P2.named)
  entering x w w' t t' (no_part g1 m1 a1 e1) (no_symbol m2 a2 e2) = absurd (m2 g1)
  entering x w w' t t' (no_part g1 m1 a1 e1) (no_part g2 m2 a2 e2) = (a1 ∙ sym a2, e1 ∙ sym e2)
  entering x w w' t t' (no_part g1 m1 a1 e1) (build_known P2 k2 h2 q2 a2 e2) = absurd (m1 P2.parts)
  entering x w w' t t' (no_part g1 m1 a1 e1) (nodes_full P2 U2 r2 a2 e2) = absurd (m1 P2.parts)
  entering x w w' t t' (no_part g1 m1 a1 e1) (new_node P2 U2 r2 a2 k2 e2 B2) = absurd (m1 P2.parts)
  entering x w w' t t' (build_known P1 k1 h1 q1 a1 e1) (no_symbol m2 a2 e2) = absurd (m2 P1.named)
  entering x w w' t t' (build_known P1 k1 h1 q1 a1 e1) (no_part g2 m2 a2 e2) = absurd (m2 P1.parts)
  entering x w w' t t' (build_known P1 k1 h1 q1 a1 e1) (build_known P2 k2 h2 q2 a2 e2) = (a1 ∙ ap granted (B.builds_apart k1 k2 h1 h2 (q1 ∙ sym q2)) ∙ sym a2, e1 ∙ sym e2)
  entering x w w' t t' (build_known P1 k1 h1 q1 a1 e1) (nodes_full P2 U2 r2 a2 e2) = absurd (U2 k1 h1 q1)
  entering x w w' t t' (build_known P1 k1 h1 q1 a1 e1) (new_node P2 U2 r2 a2 k2 e2 B2) = absurd (U2 k1 h1 q1)
  entering x w w' t t' (nodes_full P1 U1 r1 a1 e1) (no_symbol m2 a2 e2) = absurd (m2 P1.named)
  entering x w w' t t' (nodes_full P1 U1 r1 a1 e1) (no_part g2 m2 a2 e2) = absurd (m2 P1.parts)
  entering x w w' t t' (nodes_full P1 U1 r1 a1 e1) (build_known P2 k2 h2 q2 a2 e2) = absurd (U1 k2 h2 q2)
  entering x w w' t t' (nodes_full P1 U1 r1 a1 e1) (nodes_full P2 U2 r2 a2 e2) = (a1 ∙ sym a2, e1 ∙ sym e2)
  entering x w w' t t' (nodes_full P1 U1 r1 a1 e1) (new_node P2 U2 r2 a2 k2 e2 B2) = absurd (omega arith)
  entering x w w' t t' (new_node P1 U1 r1 a1 k1 e1 B1) (no_symbol m2 a2 e2) = absurd (m2 P1.named)
  entering x w w' t t' (new_node P1 U1 r1 a1 k1 e1 B1) (no_part g2 m2 a2 e2) = absurd (m2 P1.parts)
  entering x w w' t t' (new_node P1 U1 r1 a1 k1 e1 B1) (build_known P2 k2 h2 q2 a2 e2) = absurd (U1 k2 h2 q2)
  entering x w w' t t' (new_node P1 U1 r1 a1 k1 e1 B1) (nodes_full P2 U2 r2 a2 e2) = absurd (omega arith)
  entering x w w' t t' (new_node P1 U1 r1 a1 k1 e1 B1) (new_node P2 U2 r2 a2 k2 e2 B2) = (a1 ∙ sym a2, e1 ∙ ap (with_node s x) (same_class x k1 k2 (subst Book e1 B1) (subst Book e2 B2)) ∙ sym e2)

  same_classes : (a b : ℕ) (ks js : List ℕ) → Book (with_equation s a b ks) → Book (with_equation s a b js) → ks ≡ js
  same_classes a b ks js K J = ext_get_or 0 ks js (K.classed ∙ sym J.classed) at
    where
      at : (i : ℕ) → i < length ks → get_or ks i 0 ≡ get_or js i 0
      at i h =
          let l : i < length s.nodes = omega (arith, K.classed) in
          let L = K.lowest i l in
          let M = J.lowest i l in
          omega (arith, L.low (get_or js i 0) M.here M.alike, M.low (get_or ks i 0) L.here L.alike)

  equating : (a b : ℕ) (w w' : Answer ℕ) (t t' : State) → Equating s a b w t → Equating s a b w' t' → SameEnd w t w' t'
  equating a b w w' t t' (equating_no_node m1 a1 e1) (equating_no_node m2 a2 e2) = (a1 ∙ sym a2, e1 ∙ sym e2)
  equating a b w w' t t' (equating_no_node m1 a1 e1) (equations_full h2 r2 a2 e2) = absurd (m1 h2)
  equating a b w w' t t' (equating_no_node m1 a1 e1) (accepted h2 r2 a2 ks2 e2 B2) = absurd (m1 h2)
  equating a b w w' t t' (equations_full h1 r1 a1 e1) (equating_no_node m2 a2 e2) = absurd (m2 h1)
  equating a b w w' t t' (equations_full h1 r1 a1 e1) (equations_full h2 r2 a2 e2) = (a1 ∙ sym a2, e1 ∙ sym e2)
  equating a b w w' t t' (equations_full h1 r1 a1 e1) (accepted h2 r2 a2 ks2 e2 B2) = absurd (omega arith)
  equating a b w w' t t' (accepted h1 r1 a1 ks1 e1 B1) (equating_no_node m2 a2 e2) = absurd (m2 h1)
  equating a b w w' t t' (accepted h1 r1 a1 ks1 e1 B1) (equations_full h2 r2 a2 e2) = absurd (omega arith)
  equating a b w w' t t' (accepted h1 r1 a1 ks1 e1 B1) (accepted h2 r2 a2 ks2 e2 B2) = (a1 ∙ sym a2, e1 ∙ ap (with_equation s a b) (same_classes a b ks1 ks2 (subst Book e1 B1) (subst Book e2 B2)) ∙ sym e2)

  sameness : (a b : ℕ) (w w' : Answer Bool) (t t' : State) → Sameness s a b w t → Sameness s a b w' t' → SameEnd w t w' t'
  sameness a b w w' t t' (not_both m1 a1 e1) (not_both m2 a2 e2) = (a1 ∙ sym a2, e1 ∙ sym e2)
  sameness a b w w' t t' (not_both m1 a1 e1) (same_builds h2 q2 a2 e2) = absurd (m1 h2)
  sameness a b w w' t t' (not_both m1 a1 e1) (different h2 q2 a2 e2) = absurd (m1 h2)
  sameness a b w w' t t' (same_builds h1 q1 a1 e1) (not_both m2 a2 e2) = absurd (m2 h1)
  sameness a b w w' t t' (same_builds h1 q1 a1 e1) (same_builds h2 q2 a2 e2) = (a1 ∙ sym a2, e1 ∙ sym e2)
  sameness a b w w' t t' (same_builds h1 q1 a1 e1) (different h2 q2 a2 e2) = absurd (q2 q1)
  sameness a b w w' t t' (different h1 q1 a1 e1) (not_both m2 a2 e2) = absurd (m2 h1)
  sameness a b w w' t t' (different h1 q1 a1 e1) (same_builds h2 q2 a2 e2) = absurd (q1 q2)
  sameness a b w w' t t' (different h1 q1 a1 e1) (different h2 q2 a2 e2) = (a1 ∙ sym a2, e1 ∙ sym e2)

  classing : (n : ℕ) (w w' : Answer ℕ) (t t' : State) → Classing s n w t → Classing s n w' t' → SameEnd w t w' t'
  classing n w w' t t' (no_class m1 a1 e1) (no_class m2 a2 e2) = (a1 ∙ sym a2, e1 ∙ sym e2)
  classing n w w' t t' (no_class m1 a1 e1) (class_of h2 k2 L2 a2 e2) = absurd (m1 h2)
  classing n w w' t t' (class_of h1 k1 L1 a1 e1) (no_class m2 a2 e2) = absurd (m2 h1)
  classing n w w' t t' (class_of h1 k1 L1 a1 e1) (class_of h2 k2 L2 a2 e2) =
      let q : k1 ≡ k2 = omega (arith, L1.low k2 L2.here L2.alike, L2.low k1 L1.here L1.alike) in
      (a1 ∙ ap granted q ∙ sym a2, e1 ∙ sym e2)

  same_choices : (cheaper : Cheaper) (cs ds : List ℕ) → Chosen s cheaper cs → Chosen s cheaper ds → cs ≡ ds
  same_choices cheaper cs ds K L = ext_get_or 0 cs ds (K.long ∙ sym L.long) at
    where
      at : (i : ℕ) → i < length cs → get_or cs i 0 ≡ get_or ds i 0
      at i h =
          let l : i < length s.nodes = omega (arith, K.long) in
          K.choices i l
          ∙ ap (λ (ms : List ℕ). choice_in (class s) ms (class s i)) (one_way (by_builds cheaper) (table s) (class s) K.stages L.stages)
          ∙ sym (L.choices i l)

  pricing : (cheaper : Cheaper) (costs waiting : ℕ) (w w' : Answer (Unit {0})) (t t' : State)
      → Pricing s cheaper costs waiting w t → Pricing s cheaper costs waiting w' t' → SameEnd w t w' t'
  pricing cheaper costs waiting w w' t t' (short d1 a1 e1) (short d2 a2 e2) = (a1 ∙ sym a2, e1 ∙ sym e2)
  pricing cheaper costs waiting w w' t t' (short d1 a1 e1) (settled l2 m2 a2 cs2 K2 e2) = absurd (omega arith)
  pricing cheaper costs waiting w w' t t' (settled l1 m1 a1 cs1 K1 e1) (short d2 a2 e2) = absurd (omega arith)
  pricing cheaper costs waiting w w' t t' (settled l1 m1 a1 cs1 K1 e1) (settled l2 m2 a2 cs2 K2 e2) =
      (a1 ∙ sym a2, e1 ∙ ap (with_choices s) (same_choices cheaper cs1 cs2 K1 K2) ∙ sym e2)

  same_length : (n : ℕ) (u v : Build) → Spelled s n u → Spelled s n v → length (text u) ≡ length (text v)
  same_length n u v a b = ap (λ (w : Build). length (text w)) (spelled_once s u v n a b)

  spelling : (n : ℕ) (before : List ℕ) (w w' : Answer ℕ) (after after' : List ℕ) (t t' : State)
      → Spelling s n before w after t → Spelling s n before w' after' t' → SameEnd w t w' t' × (after ≡ after')
  spelling n before w w' after after' t t' (no_spelling m1 a1 f1 e1) (no_spelling m2 a2 f2 e2) = ((a1 ∙ sym a2, e1 ∙ sym e2), f1 ∙ sym f2)
  spelling n before w w' after after' t t' (no_spelling m1 a1 f1 e1) (unpriced h2 p2 a2 f2 e2) = absurd (m1 h2)
  spelling n before w w' after after' t t' (no_spelling m1 a1 f1 e1) (too_long h2 p2 u2 S2 l2 a2 f2 e2) = absurd (m1 h2)
  spelling n before w w' after after' t t' (no_spelling m1 a1 f1 e1) (written h2 p2 u2 S2 l2 a2 f2 e2) = absurd (m1 h2)
  spelling n before w w' after after' t t' (unpriced h1 p1 a1 f1 e1) (no_spelling m2 a2 f2 e2) = absurd (m2 h1)
  spelling n before w w' after after' t t' (unpriced h1 p1 a1 f1 e1) (unpriced h2 p2 a2 f2 e2) = ((a1 ∙ sym a2, e1 ∙ sym e2), f1 ∙ sym f2)
  spelling n before w w' after after' t t' (unpriced h1 p1 a1 f1 e1) (too_long h2 p2 u2 S2 l2 a2 f2 e2) = absurd (both_ways s.priced p1 p2)
  spelling n before w w' after after' t t' (unpriced h1 p1 a1 f1 e1) (written h2 p2 u2 S2 l2 a2 f2 e2) = absurd (both_ways s.priced p1 p2)
  spelling n before w w' after after' t t' (too_long h1 p1 u1 S1 l1 a1 f1 e1) (no_spelling m2 a2 f2 e2) = absurd (m2 h1)
  spelling n before w w' after after' t t' (too_long h1 p1 u1 S1 l1 a1 f1 e1) (unpriced h2 p2 a2 f2 e2) = absurd (both_ways s.priced p2 p1)
  spelling n before w w' after after' t t' (too_long h1 p1 u1 S1 l1 a1 f1 e1) (too_long h2 p2 u2 S2 l2 a2 f2 e2) = ((a1 ∙ sym a2, e1 ∙ sym e2), f1 ∙ sym f2)
  spelling n before w w' after after' t t' (too_long h1 p1 u1 S1 l1 a1 f1 e1) (written h2 p2 u2 S2 l2 a2 f2 e2) = absurd (omega (arith, same_length n u1 u2 S1 S2))
  spelling n before w w' after after' t t' (written h1 p1 u1 S1 l1 a1 f1 e1) (no_spelling m2 a2 f2 e2) = absurd (m2 h1)
  spelling n before w w' after after' t t' (written h1 p1 u1 S1 l1 a1 f1 e1) (unpriced h2 p2 a2 f2 e2) = absurd (both_ways s.priced p2 p1)
  spelling n before w w' after after' t t' (written h1 p1 u1 S1 l1 a1 f1 e1) (too_long h2 p2 u2 S2 l2 a2 f2 e2) = absurd (omega (arith, same_length n u1 u2 S1 S2))
  spelling n before w w' after after' t t' (written h1 p1 u1 S1 l1 a1 f1 e1) (written h2 p2 u2 S2 l2 a2 f2 e2) =
      let q = spelled_once s u1 u2 n S1 S2 in (
        (a1 ∙ ap (λ (u : Build). granted (length (text u))) q ∙ sym a2, e1 ∙ sym e2),
        f1 ∙ ap (λ (u : Build). text u ++ drop (length (text u)) before) q ∙ sym f2,
      )

  listing : (n marking : ℕ) (before : List Production) (w w' : Answer ℕ) (after after' : List Production) (marks marks' : List ℕ) (t t' : State)
      → Listing s n marking before w after marks t → Listing s n marking before w' after' marks' t'
      → SameEnd w t w' t' × (after ≡ after') × (marks ≡ marks')
  listing n marking before w w' after after' marks marks' t t' (no_listing m1 a1 f1 k1 e1) (no_listing m2 a2 f2 k2 e2) = ((a1 ∙ sym a2, e1 ∙ sym e2), f1 ∙ sym f2, k1 ∙ sym k2)
  listing n marking before w w' after after' marks marks' t t' (no_listing m1 a1 f1 k1 e1) (marks_short h2 g2 a2 f2 k2 e2) = absurd (m1 h2)
  listing n marking before w w' after after' marks marks' t t' (no_listing m1 a1 f1 k1 e1) (too_many h2 g2 ps2 L2 l2 a2 f2 k2 e2) = absurd (m1 h2)
  listing n marking before w w' after after' marks marks' t t' (no_listing m1 a1 f1 k1 e1) (all_listed h2 g2 ps2 L2 l2 a2 f2 k2 e2) = absurd (m1 h2)
  listing n marking before w w' after after' marks marks' t t' (marks_short h1 g1 a1 f1 k1 e1) (no_listing m2 a2 f2 k2 e2) = absurd (m2 h1)
  listing n marking before w w' after after' marks marks' t t' (marks_short h1 g1 a1 f1 k1 e1) (marks_short h2 g2 a2 f2 k2 e2) = ((a1 ∙ sym a2, e1 ∙ sym e2), f1 ∙ sym f2, k1 ∙ sym k2)
  listing n marking before w w' after after' marks marks' t t' (marks_short h1 g1 a1 f1 k1 e1) (too_many h2 g2 ps2 L2 l2 a2 f2 k2 e2) = absurd (omega arith)
  listing n marking before w w' after after' marks marks' t t' (marks_short h1 g1 a1 f1 k1 e1) (all_listed h2 g2 ps2 L2 l2 a2 f2 k2 e2) = absurd (omega arith)
  listing n marking before w w' after after' marks marks' t t' (too_many h1 g1 ps1 L1 l1 a1 f1 k1 e1) (no_listing m2 a2 f2 k2 e2) = absurd (m2 h1)
  listing n marking before w w' after after' marks marks' t t' (too_many h1 g1 ps1 L1 l1 a1 f1 k1 e1) (marks_short h2 g2 a2 f2 k2 e2) = absurd (omega arith)
  listing n marking before w w' after after' marks marks' t t' (too_many h1 g1 ps1 L1 l1 a1 f1 k1 e1) (too_many h2 g2 ps2 L2 l2 a2 f2 k2 e2) = ((a1 ∙ sym a2, e1 ∙ sym e2), f1 ∙ sym f2, k1 ∙ sym k2)
  listing n marking before w w' after after' marks marks' t t' (too_many h1 g1 ps1 L1 l1 a1 f1 k1 e1) (all_listed h2 g2 ps2 L2 l2 a2 f2 k2 e2) = absurd (omega (arith, ap length (listed_once s n ps1 ps2 L1 L2)))
  listing n marking before w w' after after' marks marks' t t' (all_listed h1 g1 ps1 L1 l1 a1 f1 k1 e1) (no_listing m2 a2 f2 k2 e2) = absurd (m2 h1)
  listing n marking before w w' after after' marks marks' t t' (all_listed h1 g1 ps1 L1 l1 a1 f1 k1 e1) (marks_short h2 g2 a2 f2 k2 e2) = absurd (omega arith)
  listing n marking before w w' after after' marks marks' t t' (all_listed h1 g1 ps1 L1 l1 a1 f1 k1 e1) (too_many h2 g2 ps2 L2 l2 a2 f2 k2 e2) = absurd (omega (arith, ap length (listed_once s n ps1 ps2 L1 L2)))
  listing n marking before w w' after after' marks marks' t t' (all_listed h1 g1 ps1 L1 l1 a1 f1 k1 e1) (all_listed h2 g2 ps2 L2 l2 a2 f2 k2 e2) =
      let q = listed_once s n ps1 ps2 L1 L2 in (
        (a1 ∙ ap (λ (ps : List Production). granted (length ps)) q ∙ sym a2, e1 ∙ sym e2),
        f1 ∙ ap (λ (ps : List Production). ps ++ drop (length ps) before) q ∙ sym f2,
        k1 ∙ sym k2,
      )

pub pinned : Pinned
pinned =
    record {
      naming = λ s B. naming s B;
      entering = λ s B. entering s B;
      equating = λ s B. equating s B;
      sameness = λ s B. sameness s B;
      classing = λ s B. classing s B;
    }

pub pinned_lent : PinnedLent
pinned_lent = record { pricing = λ s B. pricing s B; spelling = λ s B. spelling s B; listing = λ s B. listing s B }
