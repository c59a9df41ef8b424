use Rattle.ne_iter.proofs.laws.groupings.groupings_stand_at_any_moment.Goals as goal
use Rattle.ne_iter.specs.GroupBy.{by_key}
use Rattle.ne_iter.specs.GroupingLaws.{fresh_grouping}
use Rattle.ne_iter.proofs.Grouped.{returns_on}

pub returns-clause-fresh : goal.returns-clause-fresh
returns-clause-fresh g c =
    fresh_grouping g.I.Iterator.next_gives (by_key g.F.FnMut g.K.PartialEq.eq)

pub returns-clause-later : goal.returns-clause-later
returns-clause-later g c s f done r h results = returns_on g.I.Iterator.next_gives
    (by_key g.F.FnMut g.K.PartialEq.eq) s f done results r h
