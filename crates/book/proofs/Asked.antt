-- What is asked for when a node is entered.
use Rattle.std.proofs.Common.{◌≡◌, ℕ, zero, suc, ◌+◌, ◌<◌, ◌≤◌, false, List, length, sym, refl, ap, ◌∙◌, subst, inl, inr, arith}
use Rattle.book.specs.declared.row.Row.{Row}
use Rattle.book.specs.declared.row.Node.{Node}
use Rattle.book.specs.declared.row.Signature.{Signature}
use Rattle.book.specs.declared.id.Parts.{Parts}
use Rattle.book.specs.declared.id.Parts.TheVariants.{Zero, One, Two}
use Rattle.book.specs.Rows.{row, class, with_class, with_choice, TidyNode, Unchosen}
use Rattle.book.specs.Entering.{asked, Within, new_node, with_node, raw_of, Put}
use Rattle.book.specs.Layout.{Contents, entry, entry_of, state_of}
use Rattle.book.specs.Changes.{Added}
use Rattle.theory.specs.Books.{symbol, Parts as Each, IsNode}
use Rattle.theory.specs.Calls.{Proper}
use Rattle.book.specs.Invariant.{Sound, Unpriced}
use Rattle.book.proofs.States.{names_long, nodes_long}
use Rattle.book.proofs.Adding.{last, put_long, put_old, put_new}

pub new_tidy : (s n : ℕ) (parts : Parts) → Within parts n → TidyNode n (new_node s parts n)
new_tidy s n Zero w = (omega arith, λ h. absurd (omega arith), λ h. absurd (omega arith), λ h. refl, λ h. refl)
new_tidy s n (One p) w = (omega arith, λ h. w, λ h. absurd (omega arith), λ h. absurd (omega arith), λ h. refl)
new_tidy s n (Two p q) w = (omega arith, λ h. w.0, λ h. w.1, λ h. absurd (omega arith), λ h. absurd (omega arith))

pub new_symbol : (s c : ℕ) (parts : Parts) → (new_node s parts c).symbol ≡ s
new_symbol s c Zero = refl
new_symbol s c (One p) = refl
new_symbol s c (Two p q) = refl

pub new_class : (s c : ℕ) (parts : Parts) → (new_node s parts c).class ≡ c
new_class s c Zero = refl
new_class s c (One p) = refl
new_class s c (Two p q) = refl

pub new_choice : (s c : ℕ) (parts : Parts) → (new_node s parts c).choice ≡ 0
new_choice s c Zero = refl
new_choice s c (One p) = refl
new_choice s c (Two p q) = refl

new_row : (r : Row) (s n c : ℕ) (parts : Parts) → with_choice (with_class (with_node r (new_node s parts n)) c) 0 ≡ with_node r (new_node s parts c)
new_row r s n c Zero = refl
new_row r s n c (One p) = refl
new_row r s n c (Two p q) = refl

pub added_of : (s : Contents) (symbol : ℕ) (parts : Parts) (x : Node) (ys zs : List Row) → x ≡ new_node symbol parts s.nodes → s.nodes < length s.rows
    → Put s.rows ys s.nodes x → Unchosen ys zs (s.nodes + 1)
    → Added s (record { rows = zs; names = s.names; nodes = s.nodes + 1; equations = s.equations; priced = false }) symbol parts
added_of s symbol parts x ys zs e fit P U =
    let r : row zs s.nodes ≡ with_node (row s.rows s.nodes) (new_node symbol parts (class ys s.nodes))
    = U.within s.nodes (omega arith)
    ∙ ap (λ (r : Row). with_choice r 0) (put_new s.rows s.nodes x fit ys P)
    ∙ ap (λ (y : Node). with_choice (with_class (with_node (row s.rows s.nodes) y) (class ys s.nodes)) 0) e
    ∙ new_row (row s.rows s.nodes) symbol s.nodes (class ys s.nodes) parts in
    let c : class ys s.nodes ≡ class zs s.nodes = sym (ap (λ (q : Row). q.node.class) (U.within s.nodes (omega arith))) in
    record {
      long = U.long ∙ put_long s.rows s.nodes x fit ys P;
      within = λ i h. U.within i (omega arith) ∙ ap (λ (r : Row). with_choice r 0) (put_old s.rows s.nodes x fit ys P i (omega arith));
      new = r ∙ ap (λ (k : ℕ). with_node (row s.rows s.nodes) (new_node symbol parts k)) c;
      past = λ i h. U.past i (omega arith) ∙ put_old s.rows s.nodes x fit ys P i (omega arith);
      names = refl;
      nodes = refl;
      equations = refl;
      priced = refl;
    }

pub new_entry : (s c : ℕ) (parts : Parts) → entry_of (new_node s parts c) ≡ asked s parts
new_entry s c Zero = refl
new_entry s c (One p) = refl
new_entry s c (Two p q) = refl

-- a row's node that says what is asked for is what is asked for
pub found_entry : (x y : Node) (n s : ℕ) (parts : Parts) → y ≡ new_node s parts n → raw_of x ≡ raw_of y → entry_of x ≡ asked s parts
found_entry x y n s parts e g =
    ap (λ (k : Signature). entry k.symbol k.parts k.left k.right) g
    ∙ ap entry_of e
    ∙ new_entry s n parts

clash : {A : Type 0} → ◌≡◌ {A = ℕ} 0 1 → A
clash e = absurd (omega arith)

says : (x p l r n s : ℕ) (parts : Parts) → p ≤ 2 → (p < 1 → l ≡ 0) → (p < 2 → r ≡ 0) → entry x p l r ≡ asked s parts
    → record { symbol = x; parts = p; left = l; right = r } ≡ raw_of (new_node s parts n)
says x zero l r n s Zero a b c e = let f : l ≡ 0 = b (omega arith) in let g : r ≡ 0 = c (omega arith) in cc
says x zero l r n s (One p) a b c e = clash (cc)
says x zero l r n s (Two p q) a b c e = clash (cc)
says x (suc zero) l r n s Zero a b c e = clash (cc)
says x (suc zero) l r n s (One p) a b c e = let g : r ≡ 0 = c (omega arith) in cc
says x (suc zero) l r n s (Two p q) a b c e = clash (cc)
says x (suc (suc k)) l r n s Zero a b c e = clash (cc)
says x (suc (suc k)) l r n s (One p) a b c e = clash (cc)
says x (suc (suc k)) l r n s (Two p q) a b c e = let f : suc (suc k) ≡ 2 = omega arith in cc

-- and what is asked for says that
pub entry_found : (x y : Node) (i n s : ℕ) (parts : Parts) → y ≡ new_node s parts n → TidyNode i x → entry_of x ≡ asked s parts → raw_of x ≡ raw_of y
entry_found x y i n s parts e T q =
    subst (λ (z : Node). raw_of x ≡ raw_of z) (sym e)
    (says x.symbol x.parts x.left x.right n s parts T.0 T.3 T.4 q)

pub asked_symbol : (s : ℕ) (parts : Parts) → symbol (asked s parts) ≡ s
asked_symbol s Zero = refl
asked_symbol s (One p) = refl
asked_symbol s (Two p q) = refl

asked_parts : (s n m : ℕ) (parts : Parts) → n ≡ m → Within parts n → Each (λ p. p < m) (asked s parts)
asked_parts s n m Zero e w = tt
asked_parts s n m (One p) e w = omega arith
asked_parts s n m (Two p q) e w = (omega (arith, w.0), omega (arith, w.1))

parts_asked : (s n m : ℕ) (parts : Parts) → n ≡ m → Each (λ p. p < m) (asked s parts) → Within parts n
parts_asked s n m Zero e w = tt
parts_asked s n m (One p) e w = omega arith
parts_asked s n m (Two p q) e w = (omega (arith, w.0), omega (arith, w.1))

module _ (s : Contents) (K : Sound s) (x : ℕ) (parts : Parts) where
  -- a known symbol over nodes is proper
  pub proper_asked : x < s.names → Within parts s.nodes → Proper (state_of s) (asked x parts)
  proper_asked h w =
      record {
        named = omega (arith, asked_symbol x parts, names_long s K);
        parts = asked_parts x s.nodes (length (state_of s).nodes) parts (sym (nodes_long s K)) w;
      }

  -- and only that is
  pub within_asked : Each (IsNode (state_of s)) (asked x parts) → Within parts s.nodes
  within_asked e = parts_asked x s.nodes (length (state_of s).nodes) parts (sym (nodes_long s K)) e

-- a new node has no choice, so with no pricing in force there is none
pub put_unpriced : (s : Contents) → Sound s → (symbol : ℕ) (parts : Parts) (x : Node) (ys : List Row) → x ≡ new_node symbol parts s.nodes
    → s.nodes < length s.rows → Put s.rows ys s.nodes x → Unpriced ys (s.nodes + 1) s.priced
put_unpriced s K symbol parts x ys e fit P q i h = elim (last i s.nodes h) [
  | inl l ↦ ap (λ (r : Row). r.node.choice) (put_old s.rows s.nodes x fit ys P i (omega arith)) ∙ K.unpriced q i l
  | inr l ↦
      ap (λ (k : ℕ). (row ys k).node.choice) l
      ∙ ap (λ (r : Row). r.node.choice) (put_new s.rows s.nodes x fit ys P)
      ∙ ap (λ (y : Node). y.choice) e
      ∙ new_choice symbol s.nodes parts
]
