-- What was done to the first n rows was done to all, since the rows behind them stay.
use Rattle.std.proofs.Common.{◌≡◌, ℕ, ◌+◌, ◌-◌, ◌<◌, ◌≤◌, List, ◌++◌, map, length, take, drop, set, sym, ap, ap₂, ◌∙◌, subst, inl, inr, arith, length-append, length-drop, length-set}
use Rattle.std.proofs.lemmas.List.{get_or_append_left, get_or-append_right, get_or-drop, get_or-take, take-take, length-take-le, set-append_left, take-append-drop}
use Rattle.theory.specs.Tables.{Table}
use Rattle.theory.specs.Steps.{Partway}
use Rattle.book.specs.declared.row.Row.{Row}
use Rattle.book.specs.declared.row.Node.{Node}
use Rattle.book.specs.Rows.{row, class, absent, bare, table, shape_of, with_class, with_choice, Tidy, Unchosen}
use Rattle.book.specs.Entering.{with_node, placed, Put}
use Rattle.book.specs.Closing.{Accepted}
use Rattle.book.proofs.Tables.{table_long}
use Rattle.book.proofs.Front.{class_below, tidy_below, based_below, sign_below, level_below, partway_same}
use Rattle.book.proofs.Sweeps.{tidy_still}

module _ (us ys : List Row) (n : ℕ) (z : length ys ≡ n) where
  pub row_front : (i : ℕ) → i < n → row (ys ++ drop n us) i ≡ row ys i
  row_front i h = get_or_append_left ys (drop n us) absent i (omega arith)

  pub row_behind : (i : ℕ) → n ≤ i → row (ys ++ drop n us) i ≡ row us i
  row_behind i h =
      get_or-append_right ys (drop n us) n i absent z h
      ∙ get_or-drop n us (i - n) absent
      ∙ ap (row us) (omega arith)

  pub long_behind : n ≤ length us → length (ys ++ drop n us) ≡ length us
  long_behind h = length-append ys (drop n us) ∙ omega (arith, length-drop n us)

pub unchosen_behind : (us ys zs : List Row) (n : ℕ) → length ys ≡ n → Unchosen ys zs n → Unchosen (ys ++ drop n us) (zs ++ drop n us) n
unchosen_behind us ys zs n z U =
    let y : length zs ≡ n = U.long ∙ z in
    record {
      long = length-append zs (drop n us) ∙ omega (arith, length-append ys (drop n us));
      within = λ i h. row_front us zs n y i h ∙ U.within i h ∙ ap (λ (r : Row). with_choice r 0) (sym (row_front us ys n z i h));
      past = λ i h. row_behind us zs n y i h ∙ sym (row_behind us ys n z i h);
    }

pub accepted_behind : (vs ys : List Row) (n a b : ℕ) → n ≤ length vs → Tidy vs n → a < n → b < n → length ys ≡ n
    → Accepted (take n vs) ys n a b → Accepted vs (ys ++ drop n vs) n a b
accepted_behind vs ys n a b fit tidy h l z A =
    let ws = take n vs in
    let zs = ys ++ drop n vs in
    let w : (i : ℕ) → i < n → row ws i ≡ row vs i = λ i q. get_or-take n vs i absent q in
    let f = row_front vs ys n z in
    let cw = class_below vs ws n w in
    let cz = class_below ys zs n f in
    let t : table bare ws n ≡ table bare vs n = ap (map (λ (r : Row). shape_of bare r.node)) (take-take n n vs (omega arith)) in
    let m = table_long bare vs n fit in
    record {
      only = record {
        long = long_behind vs ys n z fit;
        within = λ i q. f i q ∙ A.only.within i q ∙ ap₂ with_class (w i q) (sym (cz i q));
        past = row_behind vs ys n z;
      };
      based = based_below ys zs n f A.based;
      level = level_below ys zs n f (tidy_still n ws ys A.only (tidy_below vs ws n w tidy)) A.level;
      coarser = λ i j p q e. cz i p ∙ A.coarser i j p q (cw i p ∙ e ∙ sym (cw j q)) ∙ sym (cz j q);
      joins = cz a h ∙ A.joins ∙ sym (cz b l);
      sound = λ ps e P.
          partway_same (table bare vs n) (class ys) (class zs) ps (λ i q. cz i (omega arith))
          (subst (λ (s : Table). Partway s (class ys) ps) t
          (A.sound ps e
          (subst (λ (s : Table). Partway s (class ws) ps) (sym t)
          (partway_same (table bare vs n) (class vs) (class ws) ps (λ i q. cw i (omega arith)) P))));
    }

-- a node placed in the last of the first rows
module _ (xs : List Row) (n : ℕ) (x : Node) (fit : n < length xs) where
  ws : List Row
  ws = take (n + 1) xs

  long_ws : length (take (n + 1) xs) ≡ n + 1
  long_ws = length-take-le (n + 1) xs (omega arith)

  last_row : row (take (n + 1) xs) n ≡ row xs n
  last_row = get_or-take (n + 1) xs n absent (omega arith)

  placed_whole : placed xs n x ≡ placed (take (n + 1) xs) n x ++ drop (n + 1) xs
  placed_whole =
      ap (λ (l : List Row). set l n (with_node (row xs n) x)) (sym (take-append-drop (n + 1) xs))
      ∙ set-append_left (take (n + 1) xs) (drop (n + 1) xs) n (with_node (row xs n) x) (omega (arith, long_ws))
      ∙ ap (λ (r : Row). set (take (n + 1) xs) n (with_node r x) ++ drop (n + 1) xs) (sym last_row)

  placed_long : length (placed (take (n + 1) xs) n x) ≡ n + 1
  placed_long = length-set (take (n + 1) xs) n (with_node (row (take (n + 1) xs) n) x) ∙ long_ws

  pub placed_front : (i : ℕ) → i < n + 1 → row (placed (take (n + 1) xs) n x) i ≡ row (placed xs n x) i
  placed_front i h =
      sym (row_front xs (placed (take (n + 1) xs) n x) (n + 1) placed_long i h) ∙ ap (λ (l : List Row). row l i) (sym placed_whole)

  pub put_behind : (ys : List Row) → Tidy (placed xs n x) (n + 1) → Put (take (n + 1) xs) ys n x → Put xs (ys ++ drop (n + 1) xs) n x
  put_behind ys T P = elim P [
    | inl f ↦
        let us = placed (take (n + 1) xs) n x in
        let vs = placed xs n x in
        let j = f.0 in
        let s = sign_below vs us (n + 1) placed_front T in
        inl (
          j,
          f.1,
          sym (s j (omega (arith, f.1))) ∙ f.2 ∙ s n (omega arith),
          ap (λ (l : List Row). l ++ drop (n + 1) xs) f.3
              ∙ sym (set-append_left us (drop (n + 1) xs) n (with_class (row us n) (class us j)) (omega (arith, placed_long)))
              ∙ ap (λ (l : List Row). set l n (with_class (row us n) (class us j))) (sym placed_whole)
              ∙ ap₂ (λ (r : Row) (c : ℕ). set vs n (with_class r c)) (placed_front n (omega arith)) (class_below vs us (n + 1) placed_front j (omega (arith, f.1))),
        )
    | inr f ↦
        let us = placed (take (n + 1) xs) n x in
        let s = sign_below (placed xs n x) us (n + 1) placed_front T in
        inr (λ i h e. f.0 i h (s i (omega arith) ∙ e ∙ sym (s n (omega arith))), ap (λ (l : List Row). l ++ drop (n + 1) xs) f.1 ∙ sym placed_whole)
  ]
