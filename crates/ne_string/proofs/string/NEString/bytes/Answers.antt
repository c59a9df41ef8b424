use Rattle.std.proofs.Common.{rules}
use Rattle.ne_string.specs.CharacterLaws.{lists_bytes}
use Rattle.ne_string.proofs.string.NEString.bytes.Goals as goal

pub returns-clause-lists : goal.returns-clause-lists
returns-clause-lists c = lists_bytes _ c.new.result (search rules)
