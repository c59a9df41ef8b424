use Rattle.ne_products.proofs.products.NonEmptyItertools.all_unique.Goals as goal
use Rattle.std.proofs.Common.{subst, ap, sym, ◌∙◌}
use Rattle.std.specs.List.{IsDistinct, list_any}
use Rattle.std.proofs.lemmas.Map.Keys.{IsDistinct-push}
use Rattle.ne_products.proofs.Uniques.{was_there, was_not, is_member-push, Reads-up_to}
use Rattle.ne_products.proofs.Uniques.{checks_lists}

pub loop-item-init : goal.loop-item-init
loop-item-init g c =
    let eq = g.Self.Item.PartialEq.eq in
    let made = c.new-seen.ensures in (
      subst (IsDistinct eq) made.empty made.unique,
      λ q. ap (list_any (eq q)) made.empty,
    )

pub loop-item-preserved : goal.loop-item-preserved
loop-item-preserved g c =
    let at = c.loop-item.invariant in
    let item = c.in-Some.item in
    let xs = c.loop-item.yielded in
    let laws = g.met.Self.Item.Eq.laws in (
      IsDistinct-push laws xs item at.0 (sym (c.make_room.ensures item ∙ at.1 item)
          ∙ was_not _ c.in-Ok.is_new c.in-Ok.ensures.added c.if-not-is_new.false),
      λ q. c.in-Ok.ensures.updates.0 q ∙ is_member-push laws xs item q _
          (c.make_room.ensures q ∙ at.1 q),
    )

pub returns-then-not-is_new-clause-gives : goal.returns-then-not-is_new-clause-gives
returns-then-not-is_new-clause-gives g c =
    let at = c.loop-item.invariant in
    let item = c.in-Some.item in (
      c.loop-item.yielded,
      at.0,
      (
        item,
        Reads-up_to c.into_iter-item-iterator.result c.loop-item.yielded
            c.loop-item.item-iterator item c.next.new.self
            (subst (λ r. g.Self.IntoIterator.into_iter_gives c.args.self r)
            (sym c.into_iter-item-iterator.ensures.into_iter_gives)
            c.into_iter-items.ensures.into_iter_gives) c.loop-item.yielded_by
            c.in-Some.ensures.steps,
        sym (c.make_room.ensures item ∙ at.1 item)
            ∙ was_there _ c.in-Ok.is_new c.in-Ok.ensures.added c.if-not-is_new.true,
      ),
    )

pub returns-then-not-is_new-clause-lists : goal.returns-then-not-is_new-clause-lists
returns-then-not-is_new-clause-lists g c = checks_lists g.met.Self.Item.Eq.laws _ _ _ _
    (returns-then-not-is_new-clause-gives g c)

pub returns-clause-gives : goal.returns-clause-gives
returns-clause-gives g c = (
  c.loop-item.yielded,
  c.loop-item.invariant.0,
  record {
    it = c.into_iter-item-iterator.result;
    made = subst (λ r. g.Self.IntoIterator.into_iter_gives c.args.self r)
        (sym c.into_iter-item-iterator.ensures.into_iter_gives)
        c.into_iter-items.ensures.into_iter_gives;
    given = (
      c.loop-item.item-iterator,
      c.loop-item.yielded_by,
      λ _. (c.next.new.self, c.in-None.ensures.steps),
    );
  },
)

pub returns-clause-lists : goal.returns-clause-lists
returns-clause-lists g c = checks_lists g.met.Self.Item.Eq.laws _ _ _ _ (returns-clause-gives g c)
