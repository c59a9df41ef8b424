-- Proofs, for the implementations, that the iterator over a queue by reference yields the items
-- that it has left, and an item first.
use Rattle.std.proofs.Common.{arith, ap, subst, ◌∙◌, ◌≡◌}
use Rattle.std.proofs.lemmas.List.{nil_from_length}
use Rattle.std.specs.Prelude.{List, length, map}
use Rattle.std.specs.VecDeque.Iter.{deque_iter_rest, deque_iter_steps}
use Rattle.std.specs.declared.collections.vec_deque.Iter.{Iter}
use Rattle.ne_vec.specs.Lists.{IsPrefix, Lists}
use Rattle.ne_vec.specs.ListLaws.{triggered, viewed_prefix}
use Rattle.ne_iter.specs.Sources.{HasFirst}
use Rattle.ne_deque.specs.Iterators.{IteratesQueue, ListsQueue}

pub HasFirst-queue : {X : Type 0} (xs : List X) (it : Iter X) → IteratesQueue xs it
    → HasFirst deque_iter_steps it
HasFirst-queue xs it made t ended = omega (arith, made.0, ap length made.1, ended.0)

module _ {X : Type 0} (s xs : List X) (same : s ≡ xs) where
  lists : Lists IteratesQueue deque_iter_steps (λ y. y.now) s xs
  unfolding Lists
  lists it made whole ys given =
      subst (λ l. IsPrefix whole l (map (λ y. y.now) ys)) (made.1 ∙ same)
      (viewed_prefix deque_iter_steps (λ y. y.now) deque_iter_rest (λ s t x st. st)
      (λ s t st. nil_from_length _ st.0) it ys given)

  pub lists_queue : ListsQueue s xs
  lists_queue = (triggered s xs, lists)
