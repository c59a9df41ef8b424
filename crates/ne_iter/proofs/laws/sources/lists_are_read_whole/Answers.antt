use Rattle.ne_iter.proofs.laws.sources.lists_are_read_whole.Goals as goal
use Rattle.std.specs.Prelude.{true}
use Rattle.ne_iter.specs.LoopLaws.{whole_prefix}

pub returns : goal.returns
returns g c xs ys list read = whole_prefix xs ys (list true ys read)
