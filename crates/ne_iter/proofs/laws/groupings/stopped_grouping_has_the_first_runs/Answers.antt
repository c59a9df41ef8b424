use Rattle.ne_iter.proofs.laws.groupings.stopped_grouping_has_the_first_runs.Goals as goal
use Rattle.ne_iter.proofs.Divided.{first_runs}

pub returns : goal.returns
returns g c s f = first_runs g.I.Iterator.next_gives g.F.FnMut g.K.PartialEq.eq s f
