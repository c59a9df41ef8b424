use Rattle.ne_iter.proofs.laws.groupings.whole_reading_gives_the_division.Goals as goal
use Rattle.std.proofs.Common.{refl, subst}
use Rattle.ne_iter.specs.GroupBy.{by_key}
use Rattle.ne_iter.specs.GroupingRuns.{StandsAt}
use Rattle.ne_iter.specs.Keys.{same_key}

pub returns : goal.returns
returns g c s f rs h read over =
    let eq = g.K.PartialEq.eq in
    let ended = subst (λ a. StandsAt g.I.Iterator.next_gives (by_key g.F.FnMut eq) f a s read.drawn
    h.source read.runs) over read.stands in (
      read.drawn,
      (h.source, ended.0),
      read.called,
      (read.runs, ended.1.divides (same_key eq) refl, read.returned),
    )
