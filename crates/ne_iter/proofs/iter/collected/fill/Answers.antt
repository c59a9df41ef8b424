use Rattle.ne_iter.proofs.iter.collected.fill.Goals as goal
use Rattle.std.proofs.Common.{◌≡◌, [], ◌∷◌, ◌++◌}
use Rattle.std.proofs.iter.Next.{again}
use Rattle.ne_iter.proofs.PrefixesMade.{more_items}

pub loop-item-preserved : goal.loop-item-preserved
loop-item-preserved g c =
    let held = c.args.items.items in
    let so_far = c.loop-item.invariant in
    again {P = λ xs. c.loop-item.items.items ≡ held ++ xs} so_far
    {Q = λ xs. c.push_reserved.new.self.items ≡ held ++ xs} c.in-Some.item c.in-Some.is
    (c.next.ensures.steps, c.next.ensures.goes)
    (more_items held so_far.seen (c.in-Some.item ∷ []) c.loop-item.items.items
    c.push_reserved.new.self.items c.push_reserved.ensures.items so_far.holds)
