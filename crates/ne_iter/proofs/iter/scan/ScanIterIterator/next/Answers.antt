use Rattle.ne_iter.proofs.iter.scan.ScanIterIterator.next.Goals as goal
use Rattle.std.proofs.Common.{rules, refl}
use Rattle.std.proofs.iter.Next.{served, Serves-on, Called-on}

-- The closure may be called with the item that was yielded.
pub f-requires : goal.f-requires
f-requires g c = search (rules, served c.requires.1 c.in_ok-item.item _ c.in_ok-item.ensures.steps)

-- And with the later items.
pub returns-clause-goes : goal.returns-clause-goes
returns-clause-goes g c =
    let goes = c.in_ok-item.ensures.goes in
    let called = Called-on g.F.FnMut c.f.ensures refl in
    let item = c.in_ok-item.item in
    let still = Serves-on c.requires.1 item _ c.in_ok-item.ensures.steps _ (_, called) in
    record {
      on = λ h. ((goes.keeps, still), (goes.on h).1, (goes.on h).2);
      keeps = (goes.keeps, still);
      rests = λ _. tt;
    }
