use Rattle.ne_iter.proofs.iter.non_empty.NonEmptyIterator.zip.Goals as goal
use Rattle.std.specs.Iterator.Adapters.{zip_first, zip_second}
use Rattle.ne_iter.proofs.Zip.{DrainsIf-zip, zips_lists}

pub returns-clause-gives : goal.returns-clause-gives
returns-clause-gives g c whole ps h =
    let p = DrainsIf-zip g.Self.IntoIter.Iterator.next_gives
    g.U.IntoNEIter.IntoIter.Iterator.next_gives whole h.it ps h.given in record {
      items = p.0;
      other_items = p.1;
      ended = p.2;
      other_ended = p.3;
      read = record { it = zip_first h.it; made = h.made.0; given = p.4 };
      read_other = (g.met.U.IntoNonEmptyIterator.same_lists c.args.other p.3 p.1).1
          c.into_nonempty_iter.result c.into_nonempty_iter.ensures.into_nonempty_iter_gives
          (record { it = zip_second h.it; made = h.made.1; given = p.5 });
      is = p.6;
      as_many = p.7;
      one_ended = p.8;
    }

pub returns-clause-lists : goal.returns-clause-lists
returns-clause-lists g c =
    zips_lists g.met.U.IntoNonEmptyIterator.same_lists (returns-clause-gives g c)
    g.Self.NonEmptyIterator.item_view g.U.IntoNEIter.NonEmptyIterator.item_view
