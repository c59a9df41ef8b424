-- The text is a character, so it is not empty.
use Rattle.std.proofs.Common.{rules, [], append-nil}
use Rattle.ne_string.proofs.Characters.{chars_one, some_encoded, valid}
use Rattle.ne_string.proofs.string.NEString.with_capacity.Goals as goal

pub invariant_of-result : goal.invariant_of-result
invariant_of-result c = some_encoded _ [] c.args.first (search (rules, append-nil))

pub returns-clause-characters : goal.returns-clause-characters
returns-clause-characters c =
    chars_one _ _ (valid c.push.new.self _ (search rules)) (search rules)
