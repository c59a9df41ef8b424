use Rattle.ne_iter.proofs.iter.collected.values_until_err.Goals as goal
use Rattle.std.proofs.Common.{[], ◌∷◌, ◌++◌, map, sym, subst, refl, arith, OnSome}
use Rattle.std.proofs.lemmas.List.{append-nil}
use Rattle.std.proofs.iter.Next.{said, Yields-more}
use Rattle.std.specs.Iterator.{IsNearerEnd}
use Rattle.std.specs.Prelude.{Ok}
use Rattle.ne_iter.proofs.PrefixesMade.{are_values, more_items, one_more, some_value, up_to_err}
use Rattle.ne_iter.specs.LoopLaws.{Yields-append}

pub loop-value-init : goal.loop-value-init
loop-value-init g c = (
  [],
  refl,
  sym (append-nil _),
  c.requires.0,
  c.requires.1,
  c.in_ok-push_first-in-Ok.ensures.len,
)

pub loop-value-preserved : goal.loop-value-preserved
loop-value-preserved g c =
    let it = g.I.Iterator in
    let so_far = c.loop-value.invariant in
    let taken = c.fill_with_ok-filled.ensures in
    let item = c.in-Some-Ok.field-0 in
    let then = taken.2 in
    let on = subst (λ o. OnSome o (IsNearerEnd it.can_next it.remaining c.loop-value.rest
    c.fill_with_ok-filled.result.1)) c.in-Some-Ok.is taken.3 in (
      (so_far.0 ++ taken.0) ++ item ∷ [],
      Yields-more it.next_gives c.args.rest (so_far.0 ++ taken.0) then.0 item
          c.fill_with_ok-filled.result.1
          (Yields-append it.next_gives so_far.0 taken.0 c.args.rest c.loop-value.rest
          then.0 so_far.1 then.1) (said it.next_gives c.in-Some-Ok.is then.2),
      one_more (map Ok c.push_first.new.items.items) (so_far.0 ++ taken.0) item c.in-Some-Ok.value
          c.fill_with_ok-filled.result.0.items _ c.in-Some-Ok.field-0-is
          c.in_ok-push-in-Some-Ok.ensures.items
          (more_items _ so_far.0 taken.0 _ _ taken.1 so_far.2),
      on.0,
      on.1,
      omega (arith, c.in_ok-push-in-Some-Ok.ensures.len),
    )

pub returns-in-Some-Err : goal.returns-in-Some-Err
returns-in-Some-Err g c =
    let it = g.I.Iterator in
    let so_far = c.loop-value.invariant in
    let taken = c.fill_with_ok-filled.ensures in
    let item = c.in-Some-Err.field-0 in
    let then = taken.2 in
    let yielded = so_far.0 ++ taken.0 in
    let values = c.fill_with_ok-filled.result.0.items in
    let on = subst (λ o. OnSome o (IsNearerEnd it.can_next it.remaining c.loop-value.rest
    c.fill_with_ok-filled.result.1)) c.in-Some-Err.is taken.3 in (
      yielded ++ item ∷ [],
      (
        Yields-more it.next_gives c.args.rest yielded then.0 item c.fill_with_ok-filled.result.1
            (Yields-append it.next_gives so_far.0 taken.0 c.args.rest c.loop-value.rest
            then.0 so_far.1 then.1) (said it.next_gives c.in-Some-Err.is then.2),
        on.0,
        on.1,
        up_to_err (c.args.first ∷ yielded) item c.in-Some-Err.e values c.in-Some-Err.field-0-is
            (are_values c.args.first c.in-Ok.value c.new-values.result.items
            c.push_first.new.items.items values yielded c.in-Ok.is c.new-values.ensures.items
            c.in_ok-push_first-in-Ok.ensures.items
            (more_items _ so_far.0 taken.0 _ _ taken.1 so_far.2)),
      ),
    )

pub returns-in-None : goal.returns-in-None
returns-in-None g c =
    let so_far = c.loop-value.invariant in
    let taken = c.fill_with_ok-filled.ensures in
    let then = taken.2 in
    let yielded = so_far.0 ++ taken.0 in
    let values = c.fill_with_ok-filled.result.0.items in
    let steps = g.I.Iterator.next_gives in
    let are = are_values c.args.first c.in-Ok.value c.new-values.result.items
    c.push_first.new.items.items values yielded c.in-Ok.is c.new-values.ensures.items
    c.in_ok-push_first-in-Ok.ensures.items (more_items _ so_far.0 taken.0 _ _ taken.1 so_far.2) in (
      yielded,
      (
        (
          then.0,
          Yields-append steps so_far.0 taken.0 c.args.rest c.loop-value.rest then.0 so_far.1
              then.1,
          said steps c.in-None.is then.2,
        ),
        are,
        omega (arith, some_value c.args.first yielded values are),
      ),
    )
