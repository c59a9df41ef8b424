use Rattle.ne_iter.proofs.iter.non_empty.NonEmptyIterator.append_to.Goals as goal
use Rattle.ne_iter.proofs.Appended.{list_appended_if_ok}

pub returns-clause-lists : goal.returns-clause-lists
returns-clause-lists g c =
    let read = c.append.ensures in
    list_appended_if_ok _ _ c.args.self c.args.items.now.items c.append.new.items.items
    c.append.result (
      read.0,
      record {
        it = c.into_iter.result;
        made = c.into_iter.ensures.into_iter_gives;
        given = read.1;
      },
      read.2,
    )
