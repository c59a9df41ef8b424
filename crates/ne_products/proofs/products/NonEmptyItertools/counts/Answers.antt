use Rattle.ne_products.proofs.products.NonEmptyItertools.counts.Goals as goal
use Rattle.std.proofs.Common.{◌+◌, [], ◌∷◌, ◌∙◌, None, Some, ap, append-nil, arith}
use Rattle.std.proofs.Common.{length, refl, rules, map, subst, sym, true}
use Rattle.std.proofs.iter.runs.Made.{run}
use Rattle.std.specs.Iterator.{IsFinite}
use Rattle.std.specs.Iterator.Runs.{CountFits}
use Rattle.std.specs.Option.{option_copied_mut}
use Rattle.ne_vec.specs.ListLaws.{triggered}
use Rattle.ne_iter.specs.KeyedMap.{PutsValue}
use Rattle.ne_iter.specs.LoopLaws.{Reads-loop, reads_through, whole_prefix}
use Rattle.ne_products.specs.ByKey.{IsCounted, IsFoldedByKey}
use Rattle.ne_products.proofs.ByKey.{folded-more}
use Rattle.ne_products.proofs.Counted.{counted, counts_more, fits_below, fits_push, one_more}

pub loop-x-init : goal.loop-x-init
loop-x-init g c =
    let from = c.next-first.ensures.first in
    let can = g.Self.IntoIter.Iterator.can_next in
    let left = g.Self.IntoIter.Iterator.remaining in
    let given = c.requires from.0 from.1 in
    let fits = fits_push g.Self.IntoIter.Iterator.next_gives can left 0 1 from.0
    c.next-first.result.0 c.next-first.result.1 refl (given.2, given.0, given.1) from.2 from.3 in (
      subst (λ s. CountFits g.Self.IntoIter.Iterator.next_gives left 1 s × can s
          × IsFinite (left s)) (sym c.into_iter-x-iterator.ensures.into_iter_gives) fits,
      λ xs folded. subst (λ l. IsFoldedByKey (g.M.KeyedMap.value c.in_ok-counts.counts)
          g.M.KeyedMap.same g.M.KeyedMap.key_view.of one_more 0 l) (sym (append-nil xs)) folded,
    )

pub loop-x-preserved-in-Some-value_mut : goal.loop-x-preserved-in-Some-value_mut
loop-x-preserved-in-Some-value_mut g c =
    let it = g.Self.IntoIter.Iterator in
    let here = sym c.value_mut.ensures.value ∙ ap option_copied_mut c.in-Some-value_mut.is in
    let count = one_more c.in-Some-value_mut.count.now c.in-Some.x in
    counts_more g.met.M.KeyedMap.equivalence g.M.KeyedMap.key_view.of it.next_gives it.can_next
    it.remaining
    (g.M.KeyedMap.value c.in_ok-counts.counts) c.loop-x.yielded c.loop-x.x-iterator
    (g.M.KeyedMap.value c.loop-x.counts) c.in-Some.x c.next.new.self
    (g.M.KeyedMap.value (c.value_mut.follows.lender count)) (Some c.in-Some-value_mut.count.now)
    c.loop-x.invariant c.in-Some.ensures.steps c.in-Some.ensures.goes here
    (c.value_mut.follows.holds count (search (rules, here)))

pub loop-x-preserved : goal.loop-x-preserved
loop-x-preserved g c =
    let it = g.Self.IntoIter.Iterator in
    let value = g.M.KeyedMap.value in
    let absent = sym c.value_mut.ensures.value ∙ ap option_copied_mut c.in-None-value_mut.is in
    counts_more g.met.M.KeyedMap.equivalence g.M.KeyedMap.key_view.of it.next_gives it.can_next
    it.remaining
    (value c.in_ok-counts.counts) c.loop-x.yielded c.loop-x.x-iterator (value c.loop-x.counts)
    c.in-Some.x c.next.new.self (value c.put_value.new.self) None c.loop-x.invariant
    c.in-Some.ensures.steps c.in-Some.ensures.goes absent
    (subst (λ m. PutsValue g.M.KeyedMap.same (value m) (g.M.KeyedMap.key_view.of c.in-Some.x)
    1 (value c.put_value.new.self))
    c.value_mut.follows.holds-at-none c.in_ok-put_value-in-None-value_mut.ensures.value)

pub returns-clause-gives : goal.returns-clause-gives
returns-clause-gives g c =
    let from = c.next-first.ensures.first in
    let value = g.M.KeyedMap.value in
    let name = g.M.KeyedMap.key_view.of in
    let laws = g.met.M.KeyedMap.equivalence in
    let first = c.next-first.result.0 in
    let xs = c.loop-x.yielded in
    let fits = fits_below g.Self.IntoIter.Iterator.next_gives g.Self.IntoIter.Iterator.remaining
    (length xs + 1) c.loop-x.x-iterator c.loop-x.invariant.0.0 in
    let begun = folded-more laws 0 name one_more [] first (λ _. None)
    (value c.in_ok-counts.counts) c.in_ok-counts.ensures (λ q. refl) in (
      first ∷ xs,
      Reads-loop from.0 c.loop-x.x-iterator c.next.new.self from.1 from.2
          c.into_iter-x-iterator.ensures.into_iter_gives c.loop-x.yielded_by
          c.in-None.ensures.steps,
      counted laws name (value c.loop-x.counts) (first ∷ xs) (omega (arith, fits))
          (c.loop-x.invariant.1 (first ∷ []) begun),
    )

pub returns-clause-lists : goal.returns-clause-lists
returns-clause-lists g c = λ names lists.
    let given = returns-clause-gives g c in (
      triggered c.args.self names,
      subst (IsCounted (g.M.KeyedMap.value c.loop-x.counts) g.M.KeyedMap.same)
          (whole_prefix names (map g.M.KeyedMap.key_view.of given.0)
          (reads_through g.Self.IntoIterator.into_iter_gives g.Self.IntoIter.Iterator.next_gives
          c.args.self g.M.KeyedMap.key_view.of names lists true given.0 given.1)) given.2,
    )

pub returns-clause-runs : goal.returns-clause-runs
returns-clause-runs g c =
    let given = returns-clause-gives g c in
    let read = given.1 in
    let ran = run g.Self.IntoIter.Iterator.next_gives read.it given.0 true read.given in
    (read.it, read.made, (ran, refl, refl, given.2))
