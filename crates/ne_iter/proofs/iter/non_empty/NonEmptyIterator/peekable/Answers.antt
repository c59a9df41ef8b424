use Rattle.ne_iter.proofs.iter.non_empty.NonEmptyIterator.peekable.Goals as goal
use Rattle.std.proofs.Common.{refl}
use Rattle.std.proofs.lemmas.Bool.{OnFalse_from}
use Rattle.ne_vec.specs.ListLaws.{triggered}
use Rattle.ne_iter.proofs.Peekable.{DrainsIf-headed, peekable_list, yields_rest}
use Rattle.ne_iter.proofs.Peekable.{yields_peeked}
use Rattle.ne_iter.specs.LoopLaws.{reads_through}
use Rattle.ne_iter.proofs.SourceLists.{read_lists}
use Rattle.ne_iter.specs.LoopLaws.{lists_read}

pub returns-clause-gives : goal.returns-clause-gives
returns-clause-gives g c w whole zs h =
    let first = c.next-first.ensures.first in
    let p = DrainsIf-headed g.Self.IntoIter.Iterator.next_gives w c.next-first.result.0 first.0
    c.next-first.result.1 first.2 whole h.it zs h.made.0 h.made.1 h.made.2 h.made.3 h.given in
    (record { it = first.0; made = first.1; given = p.0 }, p.1)

pub returns-clause-lists : goal.returns-clause-lists
returns-clause-lists g c =
    let gives = returns-clause-gives g c in
    let first = c.next-first.ensures.first in (
      λ xs lists.
          let list = lists_read _ _ _ xs lists in (
            triggered _ xs,
            (
              read_lists _ _ _ xs (peekable_list _ _ gives xs list),
              yields_rest _ _ gives xs list,
            ),
          ),
      OnFalse_from g.Self.NonEmptyIterator.item_view.is_itself _ (λ _ xs lists. (
        triggered _ xs,
        yields_peeked _ _ gives g.Self.NonEmptyIterator.item_view xs
            (reads_through _ _ _ _ xs lists) (record {
              it = first.0;
              made = first.1;
              given = (c.next-first.result.1, (c.next-first.result.1, first.2, refl), λ e. cc);
            }),
      )),
    )
