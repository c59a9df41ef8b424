use Rattle.user_programs.proofs.intervals.Intervals.total.Goals as goal
use Rattle.std.proofs.Common.{◌≡◌, ◌∙◌, ℕ, List, length, subst}
use Rattle.user_programs.proofs.Counted.{points_counted, total_fits}
use Rattle.user_programs.specs.Points.{ArePoints}

pub sum_of_lengths-requires : goal.sum_of_lengths-requires
sum_of_lengths-requires c = total_fits c.self.inside.map.entries c.self.invariant

pub returns-clause-count : goal.returns-clause-count
returns-clause-count c =
    let counted = points_counted c.self.inside.map.entries c.self.invariant in
    subst (λ s. (points : List ℕ) × ArePoints s points
    × (c.sum_of_lengths.result ≡ length points)) c.self.view_is
    (counted.0, counted.1, c.sum_of_lengths.ensures ∙ counted.2)
