use Rattle.std.proofs.Common.{rules}
use Rattle.ne_string.proofs.Characters.{one_or_more, two_chars, valid}
use Rattle.ne_string.proofs.string.NEString.is_one_char.Goals as goal

pub returns-then-len-gt4 : goal.returns-then-len-gt4
returns-then-len-gt4 c = two_chars _ (valid c.self.inside.inner _ c.self.view_is)
    (search (rules, c.len.ensures, c.if-len-gt4.true))

pub returns : goal.returns
returns c = one_or_more _ _ _ _ c.is_empty.ensures (valid c.self.inside.inner _ c.self.view_is)
    c.split_first.ensures.bytes
