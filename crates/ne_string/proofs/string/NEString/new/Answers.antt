-- The text begins with a character, so it is not empty.
use Rattle.std.proofs.Common.{rules}
use Rattle.std.proofs.lemmas.Str.{chars_past_char}
use Rattle.ne_string.proofs.Characters.{some_encoded, valid}
use Rattle.ne_string.proofs.string.NEString.new.Goals as goal

pub invariant_of-result : goal.invariant_of-result
invariant_of-result c = some_encoded _ c.args.rest.now c.args.first (search rules)

pub returns-clause-characters : goal.returns-clause-characters
returns-clause-characters c =
    chars_past_char _ _ _ (valid c.push_str.new.self _ (search rules)) (search rules)
