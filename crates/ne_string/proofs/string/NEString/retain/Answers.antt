-- What is kept by a test are the characters that meet it, and only the empty text has none.
use Rattle.std.proofs.Common.{◌≡◌, ◌∙◌, ◌<◌, [], ap, arith, length, refl, rules, subst}
use Rattle.std.proofs.lemmas.Grind.{common_steps}
use Rattle.std.proofs.lemmas.List.{nil_from_length}
use Rattle.std.proofs.lemmas.Str.{IsUtf8-string_bytes, chars-nil}
use Rattle.std.specs.List.{filter}
use Rattle.std.specs.Str.{chars}
use Rattle.std.specs.String.{string_bytes}
use Rattle.ne_string.proofs.Characters.{kept_chars, some_char}
use Rattle.ne_string.proofs.string.NEString.retain.Goals as goal

pub returns-then-is_empty-clause-none : goal.returns-then-is_empty-clause-none
returns-then-is_empty-clause-none g c =
    let none : string_bytes c.retain.new.self ≡ [] =
    nil_from_length _ (grind (arith, common_steps, c.if-is_empty.ensures)) in
    (λ is. ap chars none ∙ chars-nil, λ e. refl)

pub returns-else-is_empty-clause-none : goal.returns-else-is_empty-clause-none
returns-else-is_empty-clause-none g c =
    let some : 0 < length (string_bytes c.retain.new.self) =
    grind (arith, common_steps, c.if-is_empty.ensures) in
    let char = some_char _ (IsUtf8-string_bytes c.retain.new.self) some in
    (λ is. search (rules, is), λ e. absurd (omega (arith, char, ap length e)))

pub returns-then-is_empty-clause-kept : goal.returns-then-is_empty-clause-kept
returns-then-is_empty-clause-kept g c keeps acts = subst
    (λ bs. chars (string_bytes c.retain.new.self) ≡ filter keeps (chars bs)) c.self.view_is
    (kept_chars _ _ _ _ (IsUtf8-string_bytes c.self.inside.inner)
    (IsUtf8-string_bytes c.retain.new.self) c.retain.ensures.filtered keeps acts)

pub returns-else-is_empty-clause-kept : goal.returns-else-is_empty-clause-kept
returns-else-is_empty-clause-kept g c keeps acts = subst
    (λ bs. chars (string_bytes c.retain.new.self) ≡ filter keeps (chars bs)) c.self.view_is
    (kept_chars _ _ _ _ (IsUtf8-string_bytes c.self.inside.inner)
    (IsUtf8-string_bytes c.retain.new.self) c.retain.ensures.filtered keeps acts)
