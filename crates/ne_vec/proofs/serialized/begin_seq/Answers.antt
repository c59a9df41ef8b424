-- The sequence began at the first call, and the second found an item.
use Rattle.std.proofs.Common.{rules}
use Rattle.ne_vec.proofs.serialized.begin_seq.Goals as goal

pub returns-then-branch : goal.returns-then-branch
returns-then-branch g c = (
  c.begin_seq.new.self,
  c.in_ok-begin_seq.ensures,
  search (rules, c.in_ok-next_item.ensures, c.if-branch.true),
)
