use Rattle.ne_iter.proofs.iter.collected.fill_with_ok.Goals as goal
use Rattle.std.proofs.Common.{◌≡◌, ◌++◌, map}
use Rattle.std.proofs.iter.Next.{again}
use Rattle.std.specs.Prelude.{Ok}
use Rattle.ne_iter.proofs.PrefixesMade.{one_more}

pub loop-item-preserved : goal.loop-item-preserved
loop-item-preserved g c =
    let held = map Ok c.args.values.items in
    let so_far = c.loop-item.invariant in
    again {P = λ xs. map Ok c.loop-item.values.items ≡ held ++ xs} so_far
    {Q = λ xs. map Ok c.push_reserved.new.self.items ≡ held ++ xs} c.in-Some.item c.in-Some.is
    (c.next.ensures.steps, c.next.ensures.goes)
    (one_more held so_far.seen c.in-Some.item c.in-Ok.value c.loop-item.values.items
    c.push_reserved.new.self.items c.in-Ok.is
    c.push_reserved.ensures.items so_far.holds)
