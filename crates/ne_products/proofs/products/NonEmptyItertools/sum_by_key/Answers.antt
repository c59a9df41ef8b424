use Rattle.ne_products.proofs.products.NonEmptyItertools.sum_by_key.Goals as goal
use Rattle.std.proofs.Common.{◌<◌, ◌+◌, ◌^◌, ℕ, ap, arith, map, subst, sym, true, ◌∙◌}
use Rattle.std.proofs.lemmas.Result.{IfOk-weaker}
use Rattle.std.specs.Iterator.{ActsAs}
use Rattle.std.specs.List.{sum_by}
use Rattle.ne_iter.specs.LoopLaws.{each_view_read, reads_through, whole_prefix}
use Rattle.ne_iter.specs.Sources.{Reads}
use Rattle.ne_products.specs.ByKey.{Adds, FoldsByKey, IsFoldedByKey, NamesKeys}
use Rattle.ne_products.proofs.ByKey.{fold-viewed}
use Rattle.ne_products.proofs.Summed.{callable_sums, sums_view, turns_sums}

pub fold_by_key-requires-clause-callable : goal.fold_by_key-requires-clause-callable
fold_by_key-requires-clause-callable g c = λ it made. let callable = c.requires.callable it made in
    callable_sums g.F.FnMut g.G.FnMut _ (λ s. s.0) g.M.KeyedMap.key_view g.M.KeyedMap.same
    (λ s total x v d called. search called) g.Self.IntoIter.Iterator.next_gives it c.args.key _
    (λ s total x takes. search takes) callable.0 callable.1

pub returns-clause-gives : goal.returns-clause-gives
unfolding FoldsByKey
returns-clause-gives g c = IfOk-weaker c.fold_by_key.result _ _ (λ m given.
    let becomes = g.Self.IntoIterator.into_iter_gives in
    let steps = g.Self.IntoIter.Iterator.next_gives in
    let seen = g.Self.NonEmptyIterator.item_view in
    let fits = c.requires.fits in
    let ys = given.2.0 in
    let drained = given.2.3 in
    let read : Reads becomes steps true c.args.self ys = record {
      it = given.0;
      made = given.1;
      given = (drained.1.0, drained.1.1, λ _. (drained.0, drained.1.2));
    } in
    let whole = sym (whole_prefix fits.0 (map seen.of ys)
    (reads_through becomes steps c.args.self seen.of fits.0 fits.1 true ys read)) in
    let least = fold-viewed (λ t x. t + fits.2 x) seen.of 0 ys ∙ ap (sum_by fits.2) (sym whole) in (
      given.0,
      given.1,
      (
        ys,
        given.2.1,
        given.2.2.0,
        drained,
        turns_sums g.F.FnMut g.G.FnMut _ (λ s. s.0) g.M.KeyedMap.key_view g.M.KeyedMap.same
            (λ s total x v d called. search called) (λ x. fits.2 (seen.of x)) 0 _ ys _ fits.4
            (λ k. omega arith) (subst (λ n. n < 2 ^ 64) (sym least) fits.3) given.2.4,
      ),
    )) c.fold_by_key.ensures.gives

pub returns-clause-lists : goal.returns-clause-lists
unfolding FoldsByKey
returns-clause-lists g c = IfOk-weaker c.fold_by_key.result _ _ (λ m given.
    let drained = given.2.3 in
    each_view_read (λ view xs. (h : view.Target → g.M.KeyedMap.key_view.Target)
    → NamesKeys g.F.FnMut g.M.KeyedMap.key_view c.args.key (λ x. h (view.of x))
    → (add : ℕ → view.Target → ℕ) → Adds add
    → ActsAs g.G.FnMut c.args.value (λ x. add 0 (view.of x))
    → IsFoldedByKey (g.M.KeyedMap.value m) g.M.KeyedMap.same h add 0 xs)
    g.Self.NonEmptyIterator.item_view given.2.0 (record {
      it = given.0;
      made = given.1;
      given = (drained.1.0, drained.1.1, λ _. (drained.0, drained.1.2));
    })
    (sums_view g.F.FnMut g.G.FnMut g.M.KeyedMap.key_view g.met.M.KeyedMap.equivalence c.args.key
    c.args.value given.2.0 (g.M.KeyedMap.value m) given.2.1 given.2.2 given.2.4))
    (returns-clause-gives g c)
