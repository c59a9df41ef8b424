-- The bytes before and after are those of a `String`, so they are UTF-8.
use Rattle.std.proofs.Common.{rules}
use Rattle.ne_string.proofs.Characters.{chars_ended, valid}
use Rattle.ne_string.proofs.string.NEString.push.Goals as goal

pub returns-clause-characters : goal.returns-clause-characters
returns-clause-characters c = chars_ended _ _ _ (valid c.push.new.self _ (search rules))
    (valid c.self.inside.inner _ c.self.view_is) (search rules)
