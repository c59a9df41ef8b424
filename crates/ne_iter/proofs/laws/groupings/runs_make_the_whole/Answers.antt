use Rattle.ne_iter.proofs.laws.groupings.runs_make_the_whole.Goals as goal
use Rattle.std.proofs.Common.{map, refl, sym, ap, ◌∙◌}
use Rattle.ne_vec.specs.Divisions.{by_first}
use Rattle.ne_iter.specs.Keys.{items_of, same_key}
use Rattle.ne_iter.proofs.Divided.{runs_join, no_run_is_empty}

pub returns-clause-exists : goal.returns-clause-exists
returns-clause-exists g c eq ps = let runs = c.has_one_division.ensures.exists
    (by_first (same_key eq)) ps in (map items_of runs.0, (runs.0, runs.1, refl))

pub returns-clause-unique : goal.returns-clause-unique
returns-clause-unique g c eq ps rs others d e = d.2
    ∙ (ap (map items_of) (c.has_one_division.ensures.unique (by_first (same_key eq)) ps d.0 e.0 d.1
    e.1) ∙ sym e.2)

pub returns-clause-whole : goal.returns-clause-whole
returns-clause-whole g c = runs_join

pub returns-clause-some : goal.returns-clause-some
returns-clause-some g c = no_run_is_empty
