use Rattle.ne_iter.proofs.laws.firsts.first_items_stay_first.Goals as goal
use Rattle.ne_iter.specs.LoopLaws.{whole_prefix}
use Rattle.ne_iter.proofs.Map.{map_prefix}
use Rattle.ne_iter.proofs.Enumerate.{enumerate_prefix}
use Rattle.ne_iter.proofs.Take.{take_prefix}
use Rattle.ne_iter.proofs.Chain.{append_prefix}

pub returns : goal.returns
returns g c = record {
  all = whole_prefix;
  mapped = map_prefix;
  numbered = enumerate_prefix;
  taken = take_prefix;
  joined = append_prefix;
}
