use Rattle.std.proofs.Common.{rules}
use Rattle.std.proofs.lemmas.Str.{chars_past_char}
use Rattle.ne_string.proofs.Characters.{valid}
use Rattle.ne_string.proofs.string.NEString.split_first.Goals as goal

pub returns-clause-characters : goal.returns-clause-characters
returns-clause-characters c =
    chars_past_char _ _ _ (valid c.self.inside.inner _ c.self.view_is) (search rules)
