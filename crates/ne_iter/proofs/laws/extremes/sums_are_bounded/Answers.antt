use Rattle.ne_iter.proofs.laws.extremes.sums_are_bounded.Goals as goal
use Rattle.std.proofs.lemmas.List.Sums.{sum_by-le}

pub returns : goal.returns
returns c xs all = sum_by-le (λ x. x) c.args.most xs all
