use Rattle.ne_products.proofs.products.NonEmptyItertools.into_group_map_by.Goals as goal
use Rattle.std.proofs.Common.{◌≡◌, [], ◌∷◌, ◌∙◌, None, Some, ap, refl, rules, subst, sym}
use Rattle.std.proofs.lemmas.Fn.{called_at, FoldsTo-push}
use Rattle.std.specs.Option.{option_copied_mut, unwrap_or}
use Rattle.ne_iter.specs.KeyedMap.{PutsValue}
use Rattle.ne_iter.specs.LoopLaws.{Reads-loop, Yields-first, each_view_read}
use Rattle.ne_products.specs.ByKey.{FoldsByKey}
use Rattle.ne_products.specs.ByKey.{AddsLast, IsGroupedByKey, KeyTurn, NamesKeys, and_last}
use Rattle.ne_products.proofs.ByKey.{grouped_view, turns_calls}

pub key-k-requires : goal.key-k-requires
key-k-requires g c =
    let from = c.next-first.ensures.first in
    (c.requires.callable from.0 from.1).at [] from.0 c.args.key c.next-first.result.0
    c.next-first.result.1 refl refl from.2 _ refl

pub loop-x-init : goal.loop-x-init
loop-x-init g c = refl

pub key-k-requires-in-loop-x : goal.key-k-requires-in-loop-x
key-k-requires-in-loop-x g c =
    let from = c.next-first.ensures.first in
    (c.requires.callable from.0 from.1).at (c.next-first.result.0 ∷ c.loop-x.yielded)
    c.loop-x.x-iterator c.loop-x.key c.in-Some.x c.next.new.self
    (Yields-first g.Self.IntoIter.Iterator.next_gives from.0 c.next-first.result.0
    c.loop-x.yielded c.loop-x.x-iterator from.2 c.into_iter-x-iterator.ensures.into_iter_gives
    c.loop-x.yielded_by) (
      _,
      (c.key-k.result, called_at g.F.FnMut c.key-k.ensures refl),
      turns_calls g.F.FnMut AddsLast g.M.KeyedMap.key_view g.M.KeyedMap.same []
          _ c.loop-x.yielded _ c.loop-x.invariant,
    )
    c.in-Some.ensures.steps _ refl

pub loop-x-preserved-in-Some-value_mut : goal.loop-x-preserved-in-Some-value_mut
loop-x-preserved-in-Some-value_mut g c =
    let value = g.M.KeyedMap.value c.loop-x.groups in
    let k = g.M.KeyedMap.key_view.of c.key-k-in-loop-x.result in
    let group = c.push.new.self in
    let here : value k ≡ Some c.in-Some-value_mut.group.now
    = sym c.value_mut.ensures.value ∙ ap option_copied_mut c.in-Some-value_mut.is in
    FoldsTo-push (KeyTurn g.F.FnMut AddsLast g.M.KeyedMap.key_view g.M.KeyedMap.same [])
    _ c.loop-x.yielded _ c.in-Some.x _
    c.loop-x.invariant (
      c.key-k-in-loop-x.result,
      group,
      called_at g.F.FnMut c.key-k-in-loop-x.ensures refl,
      c.in_ok-push-in-Some-value_mut.ensures.added
          ∙ ap (λ o. and_last (unwrap_or o []) c.in-Some.x) (sym here),
      c.value_mut.follows.holds group (search (rules, here)),
    )

pub loop-x-preserved : goal.loop-x-preserved
loop-x-preserved g c =
    let value = g.M.KeyedMap.value c.loop-x.groups in
    let k = g.M.KeyedMap.key_view.of c.key-k-in-loop-x.result in
    let group = c.in_ok-new-in-None-value_mut.field-0 in
    let absent : value k ≡ None
    = sym c.value_mut.ensures.value ∙ ap option_copied_mut c.in-None-value_mut.is in
    let put = subst (λ m. PutsValue g.M.KeyedMap.same (g.M.KeyedMap.value m) k group
    (g.M.KeyedMap.value c.put_value.new.self))
    c.value_mut.follows.holds-at-none c.in_ok-put_value-in-None-value_mut.ensures.value in
    FoldsTo-push (KeyTurn g.F.FnMut AddsLast g.M.KeyedMap.key_view g.M.KeyedMap.same [])
    _ c.loop-x.yielded _ c.in-Some.x _
    c.loop-x.invariant (
      c.key-k-in-loop-x.result,
      group,
      called_at g.F.FnMut c.key-k-in-loop-x.ensures refl,
      c.in_ok-new-in-None-value_mut.ensures
          ∙ ap (λ o. and_last (unwrap_or o []) c.in-Some.x) (sym absent),
      put,
    )

pub returns-clause-gives : goal.returns-clause-gives
unfolding FoldsByKey
returns-clause-gives g c =
    let from = c.next-first.ensures.first in
    let drained = Yields-first g.Self.IntoIter.Iterator.next_gives from.0 c.next-first.result.0
    c.loop-x.yielded c.loop-x.x-iterator from.2 c.into_iter-x-iterator.ensures.into_iter_gives
    c.loop-x.yielded_by in (
      from.0,
      from.1,
      (
        c.next-first.result.0 ∷ c.loop-x.yielded,
        c.loop-x.key,
        tt,
        (c.next.new.self, (c.loop-x.x-iterator, drained, c.in-None.ensures.steps)),
        (
          (c.key-k.new.self, (tt, g.M.KeyedMap.value c.in_ok-groups.groups)),
          (
            c.key-k.result,
            c.in_ok-new.field-0,
            called_at g.F.FnMut c.key-k.ensures refl,
            c.in_ok-new.ensures,
            c.in_ok-groups.ensures,
          ),
          c.loop-x.invariant,
        ),
      ),
    )

pub returns-clause-lists : goal.returns-clause-lists
unfolding FoldsByKey returns-clause-gives
returns-clause-lists g c =
    let from = c.next-first.ensures.first in
    let given = returns-clause-gives g c in
    let value = g.M.KeyedMap.value c.loop-x.groups in
    each_view_read (λ view xs. (h : view.Target → g.M.KeyedMap.key_view.Target)
    → NamesKeys g.F.FnMut g.M.KeyedMap.key_view c.args.key (λ x. h (view.of x))
    → IsGroupedByKey value g.M.KeyedMap.same view h xs) g.Self.NonEmptyIterator.item_view
    given.2.0 (Reads-loop from.0 c.loop-x.x-iterator c.next.new.self from.1 from.2
    c.into_iter-x-iterator.ensures.into_iter_gives c.loop-x.yielded_by c.in-None.ensures.steps)
    (grouped_view g.M.KeyedMap.key_view g.met.M.KeyedMap.equivalence g.F.FnMut
    c.args.key given.2.0 value c.loop-x.key given.2.4)
