use Rattle.ne_iter.proofs.iter.non_empty.NonEmptyIterator.chain.Goals as goal
use Rattle.std.specs.Iterator.Adapters.{chain_first, chain_second}
use Rattle.ne_iter.proofs.Chain.{DrainsIf-chain, chains_lists}

pub returns-clause-gives : goal.returns-clause-gives
returns-clause-gives g c whole zs h =
    let p = DrainsIf-chain g.Self.IntoIter.Iterator.next_gives g.U.IntoIter.Iterator.next_gives
    whole h.it zs h.made.2 h.made.3 h.given in record {
      items = p.0;
      other_items = p.1;
      read = record { it = chain_first h.it; made = h.made.0; given = p.2 };
      read_other = record { it = chain_second h.it; made = h.made.1; given = p.3 };
      is = p.4;
    }

pub returns-clause-lists : goal.returns-clause-lists
returns-clause-lists g c =
    chains_lists g.Self.NonEmptyIterator.item_view (returns-clause-gives g c)
