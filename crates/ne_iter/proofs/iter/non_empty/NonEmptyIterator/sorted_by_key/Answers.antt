use Rattle.ne_iter.proofs.iter.non_empty.NonEmptyIterator.sorted_by_key.Goals as goal
use Rattle.std.proofs.Common.{subst, sym, refl}
use Rattle.std.proofs.lemmas.Bool.{OnFalse_from}
use Rattle.std.proofs.lemmas.List.Sorted.{IsPermutation-map}
use Rattle.std.proofs.lemmas.Simd.{map-map}
use Rattle.std.specs.Prelude.{true}
use Rattle.std.specs.Global.{Global}
use Rattle.ne_vec.specs.IteratorLaws.{lists_items_by_value}
use Rattle.ne_vec.specs.Lists.{itself}
use Rattle.ne_iter.specs.SortedByKey.{AscendsByKey, PermutesByKey}
use Rattle.ne_iter.specs.Sources.{Reads}
use Rattle.ne_iter.proofs.SortedByKey.{ascend_through, keeps_through}
use Rattle.ne_iter.proofs.SourceLists.{each_view, read_through}

pub returns-clause-lists : goal.returns-clause-lists
returns-clause-lists g c =
    let s = c.in_ok-sort_by_key.ensures in
    let items = c.in_ok-items.ensures.gives in
    let view = g.Self.NonEmptyIterator.item_view in
    let us = c.in_ok-items.items in
    let ys = c.sort_by_key.new.self in
    let sorts = AscendsByKey g.F.FnMut c.args.f g.K.Ord.cmp in
    let permutes = PermutesByKey g.F.FnMut c.args.f g.K.PartialEq.eq in
    let back = sym c.from.ensures in (
      lists_items_by_value _ _ refl Global,
      subst (sorts itself) back
          (λ h acts. ascend_through itself.of h _ ys (s.keys (λ x. h (itself.of x)) acts).0),
      OnFalse_from view.is_itself _ (λ _. (
        subst (sorts view) back
            (λ h acts. ascend_through view.of h _ ys (s.keys (λ x. h (view.of x)) acts).0),
        (
          λ h. (refl, map-map h view.of c.from.result),
          λ h. (refl, map-map h view.of c.from.result),
        ),
      )),
      each_view (λ view xs. permutes view xs c.from.result) view
          (λ view xs known. read_through _ _ c.args.self view.of xs known
          (λ l. permutes view l c.from.result) us (subst (Reads _ _ true c.args.self) (sym items.2)
          items.1) (subst (permutes view _) back (
            IsPermutation-map view.of us ys s.permutation,
            λ h acts. keeps_through view.of h _ us ys (s.keys (λ x. h (view.of x)) acts).1,
          ))),
    )
