use Rattle.ne_iter.proofs.laws.sources.lists_follow_one_another.Goals as goal
use Rattle.std.specs.Prelude.{slice_index_or}
use Rattle.ne_iter.specs.Sources.{Reads}
use Rattle.ne_iter.proofs.Flatten.{joined_sources}

pub returns : goal.returns
returns g c lists gives whole all us yss = joined_sources
    (Reads g.U.IntoIterator.into_iter_gives g.U.IntoIter.Iterator.next_gives) lists whole all us yss
    (λ k d within. gives (slice_index_or all k d))
