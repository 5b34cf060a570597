-- One field of the first n rows, as a list.
use Rattle.std.proofs.Common.{◌≡◌, ℕ, ◌+◌, ◌<◌, ◌≤◌, List, [], ◌∷◌, ◌++◌, map, length, get_or, take, sym, ap, ◌∙◌, ap₂, arith}
use lib.ListN.{length-map}
use Rattle.std.proofs.lemmas.List.{get_or-map, get_or-take, get_or_past, length-take-le, ext_get_or, map_more}
use Rattle.book.specs.declared.row.Row.{Row}
use Rattle.book.specs.Rows.{absent, row}

module _ {A : Type 0} (f : Row → A) where
  pub column_long : (rows : List Row) (n : ℕ) → n ≤ length rows → length (map f (take n rows)) ≡ n
  column_long rows n h = length-map (take n rows) f ∙ length-take-le n rows h

  pub column_at : (rows : List Row) (n i : ℕ) (d : A) → n ≤ length rows → i < n → get_or (map f (take n rows)) i d ≡ f (row rows i)
  column_at rows n i d h l =
      get_or-map f (take n rows) i absent d (omega (arith, length-take-le n rows h)) ∙ ap f (get_or-take n rows i absent l)

  pub column_past : (rows : List Row) (n i : ℕ) (d : A) → n ≤ length rows → n ≤ i → get_or (map f (take n rows)) i d ≡ d
  column_past rows n i d h l = get_or_past (map f (take n rows)) i d (omega (arith, column_long rows n h))

  pub same_column : (xs ys : List Row) (n : ℕ) → n ≤ length xs → n ≤ length ys → ((i : ℕ) → i < n → f (row ys i) ≡ f (row xs i))
      → map f (take n ys) ≡ map f (take n xs)
  same_column xs ys n h k e =
      ext_get_or (f absent) (map f (take n ys)) (map f (take n xs)) (column_long ys n k ∙ sym (column_long xs n h))
      (λ i l.
      let l' : i < n = omega (arith, column_long ys n k) in
      column_at ys n i (f absent) k l' ∙ e i l' ∙ sym (column_at xs n i (f absent) h l'))

  -- one row more
  pub more_column : (xs ys : List Row) (n : ℕ) (a : A) → n ≤ length xs → n < length ys → ((i : ℕ) → i < n → f (row ys i) ≡ f (row xs i))
      → f (row ys n) ≡ a → map f (take (n + 1) ys) ≡ map f (take n xs) ++ (a ∷ [])
  more_column xs ys n a h k e q =
      map_more f ys n absent k
      ∙ ap₂ (λ (l : List A) (x : A). l ++ (x ∷ [])) (same_column xs ys n h (omega arith) e) q
