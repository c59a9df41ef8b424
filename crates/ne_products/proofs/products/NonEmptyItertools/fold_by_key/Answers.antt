use Rattle.ne_products.proofs.products.NonEmptyItertools.fold_by_key.Goals as goal
use Rattle.std.proofs.Common.{◌≡◌, [], ◌∷◌, ◌∙◌, None, Some, ap, refl, rules, subst, sym}
use Rattle.std.proofs.lemmas.Fn.{called_at, FoldsTo-push}
use Rattle.std.specs.Option.{option_copied_mut, unwrap_or}
use Rattle.std.specs.Iterator.{ActsAsOnTwo}
use Rattle.ne_iter.specs.KeyedMap.{PutsValue}
use Rattle.ne_iter.specs.LoopLaws.{Reads-loop, Yields-first, each_view_read}
use Rattle.ne_products.specs.ByKey.{FoldsByKey}
use Rattle.ne_products.specs.ByKey.{AddsByCall, IsFoldedByKey, KeyTurn, NamesKeys}
use Rattle.ne_products.proofs.ByKey.{callable_later, folded_view}

pub key-k-requires : goal.key-k-requires
key-k-requires g c =
    let from = c.next-first.ensures.first in
    ((c.requires.callable from.0 from.1).at [] from.0 (c.args.key, (c.args.f, λ _. None))
    c.next-first.result.0 c.next-first.result.1 refl refl from.2).0 _ refl

pub f-requires : goal.f-requires
f-requires g c =
    let from = c.next-first.ensures.first in
    ((c.requires.callable from.0 from.1).at [] from.0 (c.args.key, (c.args.f, λ _. None))
    c.next-first.result.0 c.next-first.result.1 refl refl from.2).1 c.key-k.result
    c.key-k.new.self (called_at g.F.FnMut c.key-k.ensures refl)

pub loop-x-init : goal.loop-x-init
loop-x-init g c = refl

pub key-k-requires-in-loop-x : goal.key-k-requires-in-loop-x
key-k-requires-in-loop-x g c =
    let from = c.next-first.ensures.first in
    (callable_later g.Self.IntoIter.Iterator.next_gives g.F.FnMut g.G.FnMut
    g.M.KeyedMap.key_view g.M.KeyedMap.same from.0
    c.args.key c.args.init c.args.f c.loop-x.yielded
    (c.loop-x.key, (c.loop-x.f, g.M.KeyedMap.value c.loop-x.folded))
    (c.requires.callable from.0 from.1) from.2
    c.into_iter-x-iterator.ensures.into_iter_gives c.loop-x.yielded_by (
      c.key-k.result,
      c.f.result,
      called_at g.F.FnMut c.key-k.ensures refl,
      c.f.ensures,
      c.in_ok-folded.ensures,
    ) c.loop-x.invariant c.in-Some.ensures.steps).0 _ refl

-- What the closures are called with at an item of the loop.
pub f-requires-in-Some-value_mut : goal.f-requires-in-Some-value_mut
f-requires-in-Some-value_mut g c =
    let from = c.next-first.ensures.first in
    let value = g.M.KeyedMap.value c.loop-x.folded in
    let found : unwrap_or (value (g.M.KeyedMap.key_view.of c.key-k-in-loop-x.result)) c.args.init
    ≡ c.in-Some-value_mut.value.now
    = ap (λ o. unwrap_or o c.args.init) (sym c.value_mut.ensures.value
    ∙ ap option_copied_mut c.in-Some-value_mut.is) in
    subst (λ b. g.G.FnMut.pre c.loop-x.f (b, (c.in-Some.x, tt))) found
    ((callable_later g.Self.IntoIter.Iterator.next_gives g.F.FnMut g.G.FnMut
    g.M.KeyedMap.key_view g.M.KeyedMap.same from.0
    c.args.key c.args.init c.args.f c.loop-x.yielded (c.loop-x.key, (c.loop-x.f, value))
    (c.requires.callable from.0 from.1) from.2 c.into_iter-x-iterator.ensures.into_iter_gives
    c.loop-x.yielded_by (
      c.key-k.result,
      c.f.result,
      called_at g.F.FnMut c.key-k.ensures refl,
      c.f.ensures,
      c.in_ok-folded.ensures,
    ) c.loop-x.invariant c.in-Some.ensures.steps).1
    c.key-k-in-loop-x.result c.key-k-in-loop-x.new.self
    (called_at g.F.FnMut c.key-k-in-loop-x.ensures refl))

pub f-requires-in-None-value_mut : goal.f-requires-in-None-value_mut
f-requires-in-None-value_mut g c =
    let from = c.next-first.ensures.first in
    let value = g.M.KeyedMap.value c.loop-x.folded in
    let absent : unwrap_or (value (g.M.KeyedMap.key_view.of c.key-k-in-loop-x.result))
    c.args.init ≡ c.args.init
    = ap (λ o. unwrap_or o c.args.init) (sym c.value_mut.ensures.value
    ∙ ap option_copied_mut c.in-None-value_mut.is) in
    subst (λ b. g.G.FnMut.pre c.loop-x.f (b, (c.in-Some.x, tt))) absent
    ((callable_later g.Self.IntoIter.Iterator.next_gives g.F.FnMut g.G.FnMut
    g.M.KeyedMap.key_view g.M.KeyedMap.same from.0
    c.args.key c.args.init c.args.f c.loop-x.yielded (c.loop-x.key, (c.loop-x.f, value))
    (c.requires.callable from.0 from.1) from.2 c.into_iter-x-iterator.ensures.into_iter_gives
    c.loop-x.yielded_by (
      c.key-k.result,
      c.f.result,
      called_at g.F.FnMut c.key-k.ensures refl,
      c.f.ensures,
      c.in_ok-folded.ensures,
    ) c.loop-x.invariant c.in-Some.ensures.steps).1
    c.key-k-in-loop-x.result c.key-k-in-loop-x.new.self
    (called_at g.F.FnMut c.key-k-in-loop-x.ensures refl))

pub loop-x-preserved-in-Some-value_mut : goal.loop-x-preserved-in-Some-value_mut
loop-x-preserved-in-Some-value_mut g c =
    let value = g.M.KeyedMap.value c.loop-x.folded in
    let k = g.M.KeyedMap.key_view.of c.key-k-in-loop-x.result in
    let here : value k ≡ Some c.in-Some-value_mut.value.now
    = sym c.value_mut.ensures.value ∙ ap option_copied_mut c.in-Some-value_mut.is in
    let added = subst (λ b. AddsByCall g.G.FnMut c.loop-x.f b c.in-Some.x
    c.f-in-Some-value_mut.result c.f-in-Some-value_mut.new.self)
    (sym (ap (λ o. unwrap_or o c.args.init) here)) c.f-in-Some-value_mut.ensures in
    FoldsTo-push (KeyTurn g.F.FnMut (AddsByCall g.G.FnMut) g.M.KeyedMap.key_view
    g.M.KeyedMap.same c.args.init) _
    c.loop-x.yielded _ c.in-Some.x _ c.loop-x.invariant (
      c.key-k-in-loop-x.result,
      c.f-in-Some-value_mut.result,
      called_at g.F.FnMut c.key-k-in-loop-x.ensures refl,
      added,
      c.value_mut.follows.holds c.f-in-Some-value_mut.result (search (rules, here)),
    )

pub loop-x-preserved : goal.loop-x-preserved
loop-x-preserved g c =
    let value = g.M.KeyedMap.value c.loop-x.folded in
    let k = g.M.KeyedMap.key_view.of c.key-k-in-loop-x.result in
    let absent : value k ≡ None
    = sym c.value_mut.ensures.value ∙ ap option_copied_mut c.in-None-value_mut.is in
    let added = subst (λ b. AddsByCall g.G.FnMut c.loop-x.f b c.in-Some.x
    c.f-in-None-value_mut.result c.f-in-None-value_mut.new.self)
    (sym (ap (λ o. unwrap_or o c.args.init) absent)) c.f-in-None-value_mut.ensures in
    let put = subst (λ m. PutsValue g.M.KeyedMap.same (g.M.KeyedMap.value m) k
    c.f-in-None-value_mut.result (g.M.KeyedMap.value c.put_value.new.self))
    c.value_mut.follows.holds-at-none c.in_ok-put_value-in-None-value_mut.ensures.value in
    FoldsTo-push (KeyTurn g.F.FnMut (AddsByCall g.G.FnMut) g.M.KeyedMap.key_view
    g.M.KeyedMap.same c.args.init) _
    c.loop-x.yielded _ c.in-Some.x _ c.loop-x.invariant (
      c.key-k-in-loop-x.result,
      c.f-in-None-value_mut.result,
      called_at g.F.FnMut c.key-k-in-loop-x.ensures refl,
      added,
      put,
    )

pub returns-clause-gives : goal.returns-clause-gives
unfolding FoldsByKey
returns-clause-gives g c =
    let from = c.next-first.ensures.first in
    let drained = Yields-first g.Self.IntoIter.Iterator.next_gives from.0 c.next-first.result.0
    c.loop-x.yielded c.loop-x.x-iterator from.2 c.into_iter-x-iterator.ensures.into_iter_gives
    c.loop-x.yielded_by in (
      from.0,
      from.1,
      (
        c.next-first.result.0 ∷ c.loop-x.yielded,
        c.loop-x.key,
        c.loop-x.f,
        (c.next.new.self, (c.loop-x.x-iterator, drained, c.in-None.ensures.steps)),
        (
          (c.key-k.new.self, (c.f.new.self, g.M.KeyedMap.value c.in_ok-folded.folded)),
          (
            c.key-k.result,
            c.f.result,
            called_at g.F.FnMut c.key-k.ensures refl,
            c.f.ensures,
            c.in_ok-folded.ensures,
          ),
          c.loop-x.invariant,
        ),
      ),
    )

pub returns-clause-lists : goal.returns-clause-lists
unfolding FoldsByKey returns-clause-gives
returns-clause-lists g c =
    let from = c.next-first.ensures.first in
    let given = returns-clause-gives g c in
    let value = g.M.KeyedMap.value c.loop-x.folded in
    each_view_read (λ view xs. (h : view.Target → g.M.KeyedMap.key_view.Target)
    → NamesKeys g.F.FnMut g.M.KeyedMap.key_view c.args.key (λ x. h (view.of x))
    → (f : g.row.B.Denot → view.Target → g.row.B.Denot)
    → ActsAsOnTwo g.G.FnMut c.args.f (λ b x. f b (view.of x))
    → IsFoldedByKey value g.M.KeyedMap.same h f c.args.init xs) g.Self.NonEmptyIterator.item_view
    given.2.0 (Reads-loop from.0 c.loop-x.x-iterator c.next.new.self from.1 from.2
    c.into_iter-x-iterator.ensures.into_iter_gives c.loop-x.yielded_by c.in-None.ensures.steps)
    (folded_view g.M.KeyedMap.key_view g.met.M.KeyedMap.equivalence c.args.init
    g.F.FnMut g.G.FnMut c.args.key c.args.f given.2.0
    value c.loop-x.key c.loop-x.f given.2.4)
