use Rattle.ne_iter.proofs.iter.collected.append.Goals as goal
use Rattle.std.proofs.Common.{[], ◌∷◌, ◌++◌, ap, subst, ◌∙◌, OnSome}
use Rattle.std.proofs.iter.Next.{said, Yields-more}
use Rattle.std.specs.Iterator.{IsNearerEnd}
use Rattle.ne_iter.proofs.Appended.{DrainsIf-failed}
use Rattle.ne_iter.proofs.PrefixesMade.{more_items}
use Rattle.ne_iter.specs.LoopLaws.{Yields-append}

pub returns-in_default : goal.returns-in_default
returns-in_default g c =
    let steps = g.I.Iterator.next_gives in
    let so_far = c.loop-item.invariant in
    let taken = c.fill-filled.ensures in
    let then = taken.2 in (
      so_far.0 ++ taken.0,
      (
        then.0,
        Yields-append steps so_far.0 taken.0 c.args.rest c.loop-item.rest then.0 so_far.1 then.1,
        λ _. (c.fill-filled.result.1, said steps c.in_default.is then.2),
      ),
      more_items c.args.items.now.items so_far.0 taken.0 c.loop-item.items.items
          c.fill-filled.result.0.items
          (taken.1 ∙ ap (λ v. v.items ++ taken.0) c.replace.ensures.value) so_far.2,
    )

pub loop-item-preserved : goal.loop-item-preserved
loop-item-preserved g c =
    let it = g.I.Iterator in
    let so_far = c.loop-item.invariant in
    let taken = c.fill-filled.ensures in
    let then = taken.2 in
    let item = c.in-Some.item in
    let on = subst (λ o. OnSome o (IsNearerEnd it.can_next it.remaining c.loop-item.rest
    c.fill-filled.result.1)) c.in-Some.is taken.3 in
    let yielded = so_far.0 ++ taken.0 in
    let filled = c.fill-filled.result.0.items in (
      yielded ++ item ∷ [],
      Yields-more it.next_gives c.args.rest yielded then.0 item c.fill-filled.result.1
          (Yields-append it.next_gives so_far.0 taken.0 c.args.rest c.loop-item.rest then.0 so_far.1
          then.1) (said it.next_gives c.in-Some.is then.2),
      more_items c.args.items.now.items yielded (item ∷ []) filled c.push_first.new.items.items
          c.in_ok-push_first.ensures.items (more_items c.args.items.now.items so_far.0 taken.0
          c.loop-item.items.items filled
          (taken.1 ∙ ap (λ v. v.items ++ taken.0) c.replace.ensures.value) so_far.2),
      on.0,
      on.1,
    )

pub returns-in_err-push_first : goal.returns-in_err-push_first
returns-in_err-push_first g c =
    let steps = g.I.Iterator.next_gives in
    let so_far = c.loop-item.invariant in
    let taken = c.fill-filled.ensures in
    let then = taken.2 in (
      so_far.0 ++ taken.0,
      DrainsIf-failed steps c.from_residual.result c.from_residual.ensures.0 c.args.rest then.0
          (so_far.0 ++ taken.0)
          (Yields-append steps so_far.0 taken.0 c.args.rest c.loop-item.rest then.0 so_far.1
          then.1),
      c.in_err-push_first.ensures.items ∙ more_items c.args.items.now.items so_far.0 taken.0
          c.loop-item.items.items c.fill-filled.result.0.items
          (taken.1 ∙ ap (λ v. v.items ++ taken.0) c.replace.ensures.value) so_far.2,
    )
