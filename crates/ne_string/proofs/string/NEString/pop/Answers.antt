-- There is more than one character, so one stays.
use Rattle.std.proofs.Common.{IsSome, length, rules, subst, sym, ◌<◌}
use Rattle.std.proofs.lemmas.Str.{IsUtf8-string_bytes}
use Rattle.std.specs.Str.{chars}
use Rattle.ne_string.proofs.Characters.{ended_if, keeps_front}
use Rattle.ne_string.proofs.string.NEString.pop.Goals as goal

pub invariant_of-self : goal.invariant_of-self
invariant_of-self c =
    let some : IsSome c.pop.result = search (rules, c.pop.ensures.variant, c.self.invariant) in
    keeps_front c.pop.result _ _ some (IsUtf8-string_bytes c.self.inside.inner) c.pop.ensures.bytes
    (subst (λ bs. 1 < length (chars bs)) (sym c.self.view_is) c.if-is_one_char.ensures)

pub returns-else-is_one_char-clause-characters : goal.returns-else-is_one_char-clause-characters
returns-else-is_one_char-clause-characters c = ended_if c.pop.result _ _ _ c.self.view_is
    (IsUtf8-string_bytes c.self.inside.inner) (IsUtf8-string_bytes c.pop.new.self)
    c.pop.ensures.bytes
