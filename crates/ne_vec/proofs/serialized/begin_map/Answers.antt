-- The map began at the first call, and the second found a key.
use Rattle.std.proofs.Common.{rules}
use Rattle.ne_vec.proofs.serialized.begin_map.Goals as goal

pub returns-then-branch : goal.returns-then-branch
returns-then-branch g c = (
  c.begin_map.new.self,
  c.in_ok-begin_map.ensures,
  search (rules, c.in_ok-next_entry.ensures, c.if-branch.true),
)
