-- Proofs, for the implementations, that an iterator yields the items that it has left.
use Rattle.std.proofs.Common.{sym, ap, subst, ◌∙◌, ◌≡◌}
use Rattle.std.specs.Prelude.{List, length, map}
use Rattle.std.specs.Slice.Iter.{iter_steps}
use Rattle.std.specs.Vec.Iter.{into_iter_steps}
use Rattle.ne_vec.specs.Lists.{IsPrefix, Lists}
use Rattle.ne_vec.specs.ListLaws.{referenced_prefix, counted_prefix, lists_of, triggered}
use Rattle.ne_vec.specs.Iterators.{IteratesOver, IteratesByValue, ListsItems, ListsItemsByValue}

module _ {X : Type 0} (s xs : List X) (same : s ≡ xs) where
  lists_referenced : Lists IteratesOver iter_steps (λ y. y.now) s xs
  unfolding Lists
  lists_referenced it made whole ys given =
      subst (λ l. IsPrefix whole l (map (λ y. y.now) ys)) (made.1 ∙ same)
      (referenced_prefix it ys given)

  pub lists_items : ListsItems s xs
  lists_items = (triggered s xs, lists_referenced)

  lists : (Z : Type 0) → Lists (IteratesByValue {Z = Z}) into_iter_steps (λ x. x) s xs
  lists Z = lists_of _ _ s xs (λ it made whole ys given.
      subst (λ l. IsPrefix whole l ys) (made.1 ∙ same)
      (counted_prefix it ys (made.2 ∙ sym (ap length made.1)) given))

  pub lists_items_by_value : (Z : Type 0) → ListsItemsByValue Z s xs
  lists_items_by_value Z = (triggered s xs, lists Z)
