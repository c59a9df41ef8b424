use Rattle.std.proofs.Common.{rules}
use Rattle.ne_string.proofs.Characters.{chars_ended, valid}
use Rattle.ne_string.proofs.string.NEString.split_last.Goals as goal

pub returns-clause-characters : goal.returns-clause-characters
returns-clause-characters c = chars_ended _ _ _ (valid c.self.inside.inner _ c.self.view_is)
    c.as_str-2.utf8 (search rules)
