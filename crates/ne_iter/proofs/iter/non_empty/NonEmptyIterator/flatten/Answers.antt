use Rattle.ne_iter.proofs.iter.non_empty.NonEmptyIterator.flatten.Goals as goal
use Rattle.std.specs.Iterator.Adapters.{flatten_source}
use Rattle.ne_iter.proofs.Flatten.{DrainsIf-flatten, flatten_list, flattens_lists}

pub returns-clause-gives : goal.returns-clause-gives
returns-clause-gives g c whole zs h =
    let p = DrainsIf-flatten g.Self.IntoIter.Iterator.next_gives
    g.Self.Item.IntoIterator.into_iter_gives g.Self.Item.IntoIter.Iterator.next_gives
    whole h.it zs h.made.1 h.made.2 h.made.3 h.given in
    record {
      sources = p.0;
      lists = p.1;
      read = record { it = flatten_source h.it; made = h.made.0; given = p.2 };
      read_each = p.3;
      is = p.4;
    }

pub returns-clause-lists : goal.returns-clause-lists
returns-clause-lists g c =
    let same = g.met.Self.Item.IntoNonEmptyIterator.same_lists in
    flattens_lists same (flatten_list (returns-clause-gives g c))
