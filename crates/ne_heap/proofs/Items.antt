-- What follows from the order of a list's items: lengths, sums and counts, as `HeapItems` says it.
use Rattle.std.proofs.Common.{◌≡◌, refl, sym, ap, subst, ◌∙◌, ◌+◌, ◌<◌, Bool, true, arith}
use Rattle.std.proofs.Common.{cond, List, [], ◌∷◌, ◌++◌, IfSome, length, None, Option, Some}
use Rattle.std.proofs.Common.{slice_get, slice_index_or}
use Rattle.std.proofs.lemmas.List.Sorted.{IsPermutation-push_more, IsPermutation-refl}
use Rattle.std.proofs.lemmas.List.Sorted.{length_permutation, sum_by-IsPermutation, sum_by_popped}
use Rattle.std.proofs.lemmas.List.Sorted.{sum_by_pushed}
use Rattle.std.proofs.lemmas.List.Sums.{sum_by-cons}
use Rattle.std.proofs.lemmas.Option.{none-some, same_Some}
use Rattle.std.specs.BinaryHeap.{IsHeap, IsUpperBound, PopsGreatest, lt_by_cmp}
use Rattle.std.specs.Cmp.{IsEquivalence}
use Rattle.std.specs.List.{count_by}
use Rattle.std.specs.List.Sorted.{IsPermutation}
use Rattle.std.specs.declared.cmp.Ordering.{Ordering}
use Rattle.ne_heap.specs.HeapItems.{AddsItem, IsGreatestItem, ReplacesItem, SameItems, TakesItem}

module _ {X : Type 0} where
  pub same_items : (xs ys : List X) → IsPermutation xs ys → SameItems xs ys
  same_items xs ys p = (p, length_permutation xs ys p, λ f. sum_by-IsPermutation f xs ys p)

  pub same_list : (xs ys : List X) → ys ≡ xs → SameItems xs ys
  same_list xs ys e = subst (λ l. SameItems xs l) (sym e) (same_items xs xs (IsPermutation-refl xs))

  pub adds_item : (x : X) (xs ys : List X) → IsPermutation (x ∷ xs) ys → AddsItem x xs ys
  adds_item x xs ys p =
      let long = length_permutation _ _ p in
      (p, omega arith, λ f. sum_by_pushed f x xs ys p)

  pub takes_item : (xs : List X) (x : X) (ys : List X) → IsPermutation xs (x ∷ ys)
      → TakesItem xs x ys
  takes_item xs x ys p =
      let long = length_permutation _ _ p in
      (p, omega arith, λ f. (refl, sum_by_popped f x xs ys p))

  pub replaces_item : (xs : List X) (x y : X) (ys : List X) → IsPermutation (y ∷ xs) (x ∷ ys)
      → ReplacesItem xs x y ys
  replaces_item xs x y ys p =
      let long = length_permutation _ _ p in
      (p, omega arith, λ f. (refl, sum_by_popped f x (y ∷ xs) ys p ∙ sum_by-cons f y xs))

  -- One more item joins those that a list has.
  pub one_more : (xs ys zs : List X) (x : X) → SameItems xs ys → IsPermutation (x ∷ ys) zs
      → SameItems (xs ++ x ∷ []) zs
  one_more xs ys zs x same added = same_items _ _ (IsPermutation-push_more xs ys zs x same.0 added)

module _ {X : Type 0} (eq : X → X → Bool) (cmp : X → X → Ordering) (equal : IsEquivalence eq) where
  none_greater : (x : X) (xs : List X) → IsUpperBound cmp x xs
      → count_by (λ y. lt_by_cmp cmp x y) xs ≡ 0
  none_greater x [] bound = refl
  none_greater x (y ∷ ys) bound =
      let here : cond (lt_by_cmp cmp x y) 1 0 ≡ 0 = ap (λ b. cond b 1 0) bound.0 in
      sum_by-cons (λ z. cond (lt_by_cmp cmp x z) 1 0) y ys
      ∙ (λ i. here i + none_greater x ys bound.1 i)

  found : (x : X) (xs : List X) → slice_get xs 0 ≡ Some x → 0 < count_by (λ y. eq y x) xs
  found x [] top = absurd (none-some x top)
  found x (y ∷ ys) top =
      let equal_x : eq y x ≡ true =
      subst (λ z. eq z x ≡ true) (sym (same_Some y x top)) (equal.refl x) in
      let all = sum_by-cons (λ z. cond (eq z x) 1 0) y ys in
      subst (λ n. 0 < n) (sym (all ∙ (λ i. cond (equal_x i) 1 0 + count_by (λ z. eq z x) ys)))
      (omega arith)

  pub is_greatest : (xs : List X) (x : X) → slice_get xs 0 ≡ Some x → IsUpperBound cmp x xs
      → IsGreatestItem eq cmp xs x
  is_greatest xs x top bound = (top, bound, found x xs top, none_greater x xs bound)

  -- The item at the top of a heap, as `pop` of a `BinaryHeap` says it.
  pub at_top : (x : X) (xs : List X) → 0 < length xs → x ≡ slice_index_or xs 0 x
      → slice_get xs 0 ≡ Some x
  at_top x [] some e = absurd (omega arith)
  at_top x (y ∷ ys) some e = ap Some (sym e)

  pub popped_greatest : (xs ys : List X) (popped : Option X) → 0 < length xs → IsHeap cmp xs
      → IfSome popped (λ x. x ≡ slice_index_or xs 0 x)
      → IfSome popped (λ x. PopsGreatest cmp xs x ys)
      → IfSome popped (IsGreatestItem eq cmp xs)
  popped_greatest xs ys None some heap top order = tt
  popped_greatest xs ys (Some x) some heap top order =
      is_greatest xs x (at_top x xs some top) (order heap).1
