use Rattle.ne_iter.proofs.iter.non_empty.NonEmptyIterator.next.Goals as goal
use Rattle.std.proofs.Common.{rules}
use Rattle.ne_vec.specs.ListLaws.{triggered}
use Rattle.ne_iter.proofs.SourceLists.{begins_list}
use Rattle.ne_iter.specs.LoopLaws.{lists_read}

pub returns-clause-first : goal.returns-clause-first
returns-clause-first g c = search rules

pub returns-clause-lists : goal.returns-clause-lists
returns-clause-lists g c xs lists =
    let first = returns-clause-first g c in
    let steps = g.Self.IntoIter.Iterator.next_gives in
    let list = lists_read _ steps _ xs lists in
    (triggered _ xs, begins_list _ steps _ xs list first.0 _ _ first.1 first.2)
