-- The productions of the marked classes, one after another, as they are counted and written. Cited by the contracts of both.
--
-- | word            | meaning                                                                                      |
-- |-----------------|----------------------------------------------------------------------------------------------|
-- | joined          | the lists of n numbers from a on, one after another                                          |
-- | same_production | whether two productions are the same                                                         |
-- | unmet           | whether no node below n has the production                                                   |
-- | stands          | whether node j is of class k, and no lower node has its production                           |
-- | of_node         | the production of such a node, and none of another                                           |
-- | of_class        | the productions of a class, by the lowest node that has each                                 |
-- | of_marked       | the same of a marked class, and none of another                                              |
-- | listing         | the productions of all marked classes, by class                                              |
-- | left_over       | those that are left of one class, and those of more classes                                  |
use Rattle.std.specs.Prelude.{ℕ, zero, suc, ◌-◌, Bool, true, false, cond, List, [], ◌∷◌, ◌++◌, length, ◌==◌, slice_index}
use Rattle.std.specs.declared.ops.Range.{Range}
use Rattle.std.specs.List.{flat_map, range_with_len}
use Rattle.theory.specs.Books.{State, class}
use Rattle.theory.specs.Productions.{Production, production}

abbrev pub joined : {A : Type 0} → (ℕ → List A) → ℕ → ℕ → List A
joined f a n = flat_map f (range_with_len a n)

abbrev pub same_production : Production → Production → Bool
same_production p q =
    cond (p.of == q.of)
    (cond (p.symbol == q.symbol)
    (cond (p.parts == q.parts) (cond (p.left == q.left) (p.right == q.right) false) false) false)
    false

abbrev pub unmet : State → Production → ℕ → Bool
unmet s p zero = true
unmet s p (suc n) = cond (same_production p (production s n)) false (unmet s p n)

abbrev pub stands : State → ℕ → ℕ → Bool
stands s k j = cond (class s j == k) (unmet s (production s j) j) false

abbrev pub of_node : State → ℕ → ℕ → List Production
of_node s k j = cond (stands s k j) (production s j ∷ []) []

abbrev pub of_class : State → ℕ → List Production
of_class s k = joined (of_node s k) 0 (length s.nodes)

abbrev pub of_marked : State → List ℕ → ℕ → List Production
of_marked s ms k = cond (slice_index ms k == 0) [] (of_class s k)

abbrev pub listing : State → List ℕ → List Production
listing s ms = joined (of_marked s ms) 0 (length s.nodes)

-- of class k by the nodes in a range, and of the marked classes in another
abbrev pub left_over : State → List ℕ → ℕ → Range ℕ → Range ℕ → List Production
left_over s ms k nodes classes = joined (of_node s k) nodes.start (nodes.end - nodes.start) ++ joined (of_marked s ms) classes.start (classes.end - classes.start)
