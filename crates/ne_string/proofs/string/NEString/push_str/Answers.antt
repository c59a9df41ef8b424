-- The bytes before are those of a `String`, so they are UTF-8.
use Rattle.std.proofs.Common.{rules, ap, ◌∙◌, ◌≡◌, ◌++◌}
use Rattle.std.proofs.lemmas.Str.{chars-append}
use Rattle.std.specs.Str.{chars}
use Rattle.std.specs.String.{string_bytes}
use Rattle.ne_string.proofs.Characters.{valid}
use Rattle.ne_string.proofs.string.NEString.push_str.Goals as goal

pub returns-clause-characters : goal.returns-clause-characters
returns-clause-characters c =
    let whole : string_bytes c.push_str.new.self ≡ c.args.self.now ++ c.args.string.now =
    search rules in
    ap chars whole ∙ chars-append _ _ (valid c.self.inside.inner _ c.self.view_is)
