-- What settling the classes leaves in the tables of pricing, and what is then stored in the rows.
--
-- | word    | meaning                                                                                     |
-- |---------|---------------------------------------------------------------------------------------------|
-- | Chose   | an entry's node is made the choice of its class, at the entry's cost                        |
-- | Settles | the choices and costs of the classes are those that the stages give                         |
-- | Spread  | each node's row and each row of the cost table has what the node's class has                |
-- | priced_with | a book with other rows and a pricing in force                                           |
use Rattle.std.specs.Prelude.{◌≡◌, ℕ, ◌<◌, ◌≤◌, true, List, length, Option, Some, slice_index_or, slice_set}
use Rattle.theory.specs.Costs.{Rule}
use Rattle.theory.specs.Stages.{done_in, choice_in, cost_in, Stages}
use Rattle.queue.specs.declared.Entry.{Entry}
use Rattle.book.specs.declared.row.Row.{Row}
use Rattle.book.specs.Rows.{row, class, with_choice}
use Rattle.book.specs.Layout.{Contents}
use Rattle.pricing.specs.Nodes.{table, chosen_at, one_more}

pub record Chose {C : Type 0} (xs : List Row) (e : Entry C) (ch ch' : List (Option ℕ)) (cs cs' : List C) : Type 0 where
  pub chosen : ch' ≡ slice_set ch (class xs e.node) (Some e.node)
  pub costs : cs' ≡ slice_set cs (class xs e.node) e.cost

-- ch has the choice of each class; the costs were cs and are ds
pub record Settles {C : Type 0} (rule : Rule C) (xs : List Row) (ch : List (Option ℕ)) (cs ds : List C) : Type 0 where
  pub settlers : List ℕ
  pub stages : Stages rule (table xs) (class xs) settlers
  pub chosen : (k : ℕ) → k < length xs → done_in (class xs) settlers k ≡ true → chosen_at ch k ≡ Some (choice_in (class xs) settlers k)
  pub costs : (k : ℕ) (d : C) → k < length xs → done_in (class xs) settlers k ≡ true → slice_index_or ds k d ≡ cost_in rule (table xs) (class xs) settlers k
  pub later : (k : ℕ) (d : C) → length xs ≤ k → slice_index_or ds k d ≡ slice_index_or cs k d

-- the rows xs are ys afterwards, of which the first n are nodes; the costs cs are ds
pub record Spread {C : Type 0} (xs ys : List Row) (n : ℕ) (ch : List (Option ℕ)) (cs ds : List C) : Type 0 where
  pub long : length ys ≡ length xs
  pub within : (i : ℕ) → i < n → row ys i ≡ with_choice (row xs i) (one_more (chosen_at ch (class xs i)))
  pub past : (i : ℕ) → n ≤ i → row ys i ≡ row xs i
  pub costs : (i : ℕ) (d : C) → i < n → slice_index_or ds i d ≡ slice_index_or cs (class xs i) d
  pub later : (i : ℕ) (d : C) → n ≤ i → slice_index_or ds i d ≡ slice_index_or cs i d

-- the book s with the rows ys and a pricing in force
abbrev pub priced_with : Contents → List Row → Contents
priced_with s ys = record { rows = ys; names = s.names; nodes = s.nodes; equations = s.equations; priced = true }
