-- A sort by a comparison that an order makes: the items ascend, and those that tie stay in order.
use Rattle.std.proofs.Common.{ap}
use Rattle.std.proofs.lemmas.Fn.{always_returns_same}
use Rattle.std.proofs.lemmas.List.MinMax.{ranks_by}
use Rattle.std.proofs.lemmas.List.Sorted.{sorted_far}
use Rattle.std.specs.Prelude.{◌≡◌, List, refl}
use Rattle.std.specs.Borrow.{Bor}
use Rattle.std.specs.Cmp.{IsTotalOrder, back_total, int_cmp_total, nat_cmp_total, on_total}
use Rattle.std.specs.Cmp.{then_total}
use Rattle.std.specs.Cmp.Lexicographic.{nat_list_cmp_total}
use Rattle.std.specs.Fn.{ComparesAs, Mut}
use Rattle.std.specs.List.Sorted.{IsSortedByClosure, IsStableByClosure}
use Rattle.std.specs.Ordering.{is_lt}
use Rattle.std.specs.declared.cmp.Ordering.{Ordering}
use Rattle.ne_vec.proofs.SortedKeys.{keeps}
use Rattle.ne_vec.specs.KeyOrder.{KeysAscend, KeepsTies}
use Rattle.ne_vec.specs.Orders.{Order, by_number, by_signed, by_text, reversed, and_then, compare}
use Rattle.ne_vec.specs.Orders.{ComparesBy, ItemsAscend, KeepsTiesOf}

total : {A : Type 0} (order : Order A) → IsTotalOrder (compare order)
total (by_number number) = on_total number nat_cmp_total
total (by_signed number) = on_total number int_cmp_total
total (by_text text) = on_total text nat_list_cmp_total
total (reversed order) = back_total (total order)
total (and_then first second) = then_total (total first) (total second)

module _ {A F : Type 0} (calls : Mut F (Bor A × (Bor A × Unit {0})) Ordering) (f : F)
    (order : Order A) (acts : ComparesBy calls f order) where
  compares : ComparesAs calls (λ x y. is_lt (compare order x y)) f
  compares = always_returns_same calls (λ a r. is_lt r ≡ is_lt (compare order a.0.now a.1.0.now)) f
      (λ a r g called.
      let m = acts a.0.now a.1.0.now r g (record {
        first = a.0;
        second = a.1.0;
        shows = (refl, refl);
        called = called;
      }) in
      (ap is_lt m.1, m.0))

  pub items_ascend : (ys : List A) → IsSortedByClosure calls f ys → ItemsAscend order ys
  unfolding ItemsAscend KeysAscend
  items_ascend ys up =
      let ranks = ranks_by (total order) (λ x. x) in
      sorted_far _ ranks ys (up _ ranks compares)

  pub keeps_tied : (xs ys : List A) → IsStableByClosure calls f xs ys → KeepsTiesOf order xs ys
  unfolding KeepsTiesOf KeepsTies
  keeps_tied xs ys stable = keeps (total order) (λ x. x) (λ j k. refl) xs ys
      (stable _ (ranks_by (total order) (λ x. x)) compares)
