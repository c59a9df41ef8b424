-- There is more than one character, so one stays.
use Rattle.std.proofs.Common.{◌<◌, length, rules, subst, sym}
use Rattle.std.proofs.lemmas.Str.{IsUtf8-string_bytes}
use Rattle.std.specs.Str.{chars}
use Rattle.std.specs.String.Boundary.{IsSplitPoint}
use Rattle.ne_string.proofs.Characters.{keeps_rest}
use Rattle.ne_string.proofs.string.NEString.remove.Goals as goal

pub remove-requires-clause-boundary : goal.remove-requires-clause-boundary
remove-requires-clause-boundary c = subst (λ bs. IsSplitPoint bs c.args.idx) (sym c.self.view_is)
    (c.requires.boundary c.if-is_one_char.ensures)

pub remove-requires-clause-in_bounds : goal.remove-requires-clause-in_bounds
remove-requires-clause-in_bounds c =
    let within = subst (λ bs. c.args.idx < length bs) (sym c.self.view_is)
    (c.requires.within c.if-is_one_char.ensures) in
    search (rules, within)

pub invariant_of-self : goal.invariant_of-self
invariant_of-self c = let cut = c.remove.ensures.bytes in
    keeps_rest _ _ cut.0 c.args.idx c.remove.result (IsUtf8-string_bytes c.self.inside.inner) cut.1
    cut.2 (subst (λ bs. 1 < length (chars bs)) (sym c.self.view_is) c.if-is_one_char.ensures)
