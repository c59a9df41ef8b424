use Rattle.ne_iter.proofs.laws.collected.interspersed_lists_have_their_places.Goals as goal
use Rattle.ne_iter.specs.Cloned.{TriesClone}
use Rattle.ne_iter.proofs.InterspersedPlaces.{count_of, items_at, separators_at, err_is_last}

pub returns-clause-count : goal.returns-clause-count
returns-clause-count g c separator = count_of
    (TriesClone g.T.Clone.is_clone g.T.Clone.is_infallible separator)

pub returns-clause-items : goal.returns-clause-items
returns-clause-items g c separator = items_at
    (TriesClone g.T.Clone.is_clone g.T.Clone.is_infallible separator)

pub returns-clause-separators : goal.returns-clause-separators
returns-clause-separators g c separator = separators_at
    (TriesClone g.T.Clone.is_clone g.T.Clone.is_infallible separator)

pub returns-clause-last : goal.returns-clause-last
returns-clause-last g c separator = err_is_last
    (TriesClone g.T.Clone.is_clone g.T.Clone.is_infallible separator)
