-- The text of a `&str` is UTF-8.
use Rattle.std.proofs.Common.{rules}
use Rattle.std.proofs.lemmas.Str.{encodes-chars}
use Rattle.ne_string.specs.CharacterLaws.{lists_chars}
use Rattle.ne_string.proofs.string.NEString.chars.Goals as goal

pub returns-clause-lists : goal.returns-clause-lists
returns-clause-lists c = lists_chars _ c.new.result (search rules)

pub returns-clause-spelled : goal.returns-clause-spelled
returns-clause-spelled c =
    let spelled = encodes-chars c.as_str.result.now c.as_str.utf8 in
    cc spelled
