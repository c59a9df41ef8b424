use Rattle.ne_iter.proofs.iter.non_empty.NonEmptyIterator.partition.Goals as goal
use Rattle.std.proofs.Common.{[], ◌∷◌, ◌++◌, false, refl, subst, sym, true}
use Rattle.std.proofs.lemmas.Fn.{called_at}
use Rattle.std.specs.Fn.{CalledAt}
use Rattle.std.specs.Iterator.{Yields}
use Rattle.ne_iter.proofs.Parted.{PartedSoFar, parted_calls, parted_more, parts_lists}

pub loop-x-init : goal.loop-x-init
loop-x-init g c = ([], refl, refl, c.new-passed.ensures.items, c.new-others.ensures.items)

pub predicate-requires : goal.predicate-requires
predicate-requires g c =
    let it = c.into_iter-x-iterator.result in
    (c.requires.callable it c.into_iter-x-iterator.ensures.into_iter_gives).at c.loop-x.yielded
    c.loop-x.x-iterator c.loop-x.predicate c.in-Some.x c.next.new.self c.loop-x.yielded_by
    (parted_calls g.P.FnMut c.args.predicate c.loop-x.yielded c.loop-x.passed.items
    c.loop-x.others.items c.loop-x.predicate c.loop-x.invariant) c.in-Some.ensures.steps _ refl

pub loop-x-preserved-in-Continue-1 : goal.loop-x-preserved-in-Continue-1
loop-x-preserved-in-Continue-1 g c =
    let call = subst (λ b. CalledAt g.P.FnMut c.loop-x.predicate c.in-Some.x b
    c.predicate.new.self) c.if-predicate.true (called_at g.P.FnMut c.predicate.ensures refl) in
    subst (λ l. PartedSoFar g.P.FnMut c.args.predicate
    (c.loop-x.yielded ++ c.in-Some.x ∷ []) l c.loop-x.others.items
    c.predicate.new.self) (sym c.in_ok-push.ensures.items)
    (parted_more g.P.FnMut c.args.predicate c.loop-x.yielded c.loop-x.passed.items
    c.loop-x.others.items c.loop-x.predicate c.in-Some.x true c.predicate.new.self
    c.loop-x.invariant call)

pub loop-x-preserved : goal.loop-x-preserved
loop-x-preserved g c =
    let call = subst (λ b. CalledAt g.P.FnMut c.loop-x.predicate c.in-Some.x b
    c.predicate.new.self) c.if-predicate.false (called_at g.P.FnMut c.predicate.ensures refl) in
    subst (λ l. PartedSoFar g.P.FnMut c.args.predicate
    (c.loop-x.yielded ++ c.in-Some.x ∷ []) c.loop-x.passed.items l
    c.predicate.new.self) (sym c.in_ok-push-2.ensures.items)
    (parted_more g.P.FnMut c.args.predicate c.loop-x.yielded c.loop-x.passed.items
    c.loop-x.others.items c.loop-x.predicate c.in-Some.x false c.predicate.new.self
    c.loop-x.invariant call)

pub returns-clause-gives : goal.returns-clause-gives
returns-clause-gives g c =
    let parted = c.loop-x.invariant in
    record {
      tested = parted.0;
      f_then = c.loop-x.predicate;
      read = record {
        it = c.into_iter-x-iterator.result;
        made = c.into_iter-x-iterator.ensures.into_iter_gives;
        given = (
          c.loop-x.x-iterator,
          subst (λ l. Yields g.Self.IntoIter.Iterator.next_gives c.into_iter-x-iterator.result l
              c.loop-x.x-iterator) (sym parted.1) c.loop-x.yielded_by,
          λ _. (c.next.new.self, c.in-None.ensures.steps),
        );
      };
      called = parted.2;
      passed = parted.3;
      others = parted.4;
    }

pub returns-clause-lists : goal.returns-clause-lists
returns-clause-lists g c = parts_lists g.P.FnMut c.args.predicate
    g.Self.IntoIterator.into_iter_gives g.Self.IntoIter.Iterator.next_gives c.args.self
    c.loop-x.passed.items c.loop-x.others.items (returns-clause-gives g c)
    g.Self.NonEmptyIterator.item_view
