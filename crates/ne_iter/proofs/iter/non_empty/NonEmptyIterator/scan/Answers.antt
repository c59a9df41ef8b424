use Rattle.ne_iter.proofs.iter.non_empty.NonEmptyIterator.scan.Goals as goal
use Rattle.std.proofs.Common.{subst}
use Rattle.ne_iter.specs.Calls.{CallsWithState}
use Rattle.ne_iter.specs.Scan.{scanned_from}
use Rattle.ne_iter.proofs.Scan.{DrainsIf-scan, scans_lists}

pub returns-clause-gives : goal.returns-clause-gives
returns-clause-gives g c whole ys h =
    let calls = g.F.FnMut in
    let p = DrainsIf-scan g.Self.IntoIter.Iterator.next_gives calls h.it ys h.given in
    let init = c.args.init in
    let by_init = subst (λ s. CallsWithState calls h.it.f s p.0 ys p.1 p.2) h.made.1 p.4 in
    let by_f = subst (λ f. CallsWithState calls f init p.0 ys p.1 p.2) h.made.2 by_init in
    record {
      items = p.0;
      f_then = p.1;
      state_then = p.2;
      read = record { it = scanned_from h.it; made = h.made.0; given = p.3 };
      called = by_f;
    }

pub returns-clause-ends : goal.returns-clause-ends
returns-clause-ends g c runs callable it made =
    let source = runs (scanned_from it) made.0 in
    let each = callable (scanned_from it) made.0 in
    ((source.0, rw (made.1, made.2) each), source.1)

pub returns-clause-lists : goal.returns-clause-lists
returns-clause-lists g c =
    scans_lists g.Self.NonEmptyIterator.item_view (returns-clause-gives g c)
