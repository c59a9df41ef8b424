use Rattle.ne_iter.proofs.iter.flatten.append_source.Goals as goal
use Rattle.std.proofs.Common.{◌∷◌, [], ◌++◌, ap, ◌∙◌, arith}
use Rattle.std.proofs.iter.Next.{on, said, Yields-more}
use Rattle.ne_iter.proofs.PrefixesMade.{more_items}
use Rattle.ne_iter.specs.LoopLaws.{Yields-append}

pub loop-preserved : goal.loop-preserved
loop-preserved g c =
    let steps = g.U.IntoIter.Iterator.next_gives in
    let so_far = c.loop.invariant in
    let item = c.in-Some.item in
    let after = on item c.in-Some.is c.next.ensures.goes so_far.5 in
    let pushed = c.push_reserved.ensures in (
      so_far.0 ++ item ∷ [],
      Yields-more steps c.into_iter-rest.result so_far.0 c.loop.rest item c.next.new.self so_far.1
          (said steps c.in-Some.is c.next.ensures.steps),
      more_items c.with_room-items.result.0.items so_far.0 (item ∷ []) c.loop.items.items
          c.push_reserved.new.self.items pushed.items so_far.2,
      omega (arith, so_far.3, pushed.len, pushed.capacity),
      after.0,
      after.1,
    )

pub returns : goal.returns
returns g c =
    let steps = g.U.IntoIter.Iterator.next_gives in
    let begun = c.into_iter-rest.result in
    let so_far = c.loop.invariant in
    let more = c.append_rest-2.ensures in
    let left = more.1 in (
      so_far.0 ++ more.0,
      record {
        it = begun;
        made = c.into_iter-rest.ensures.into_iter_gives;
        given = (
          left.0,
          Yields-append steps so_far.0 more.0 begun c.loop.rest left.0 so_far.1 left.1,
          left.2,
        );
      },
      more_items c.args.items.items so_far.0 more.0 c.loop.items.items
          c.append_rest-2.result.0.items more.2
          (so_far.2 ∙ ap (λ l. l ++ so_far.0) c.with_room-items.ensures.items),
    )
