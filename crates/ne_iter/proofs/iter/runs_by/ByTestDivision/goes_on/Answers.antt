use Rattle.ne_iter.proofs.iter.runs_by.ByTestDivision.goes_on.Goals as goal
use Rattle.std.proofs.Common.{[], refl, ap, sym, ◌∙◌}
use Rattle.std.proofs.lemmas.Fn.{says_at_two}
use Rattle.std.proofs.lemmas.List.Elements.{Contains-append_left}

pub f-requires : goal.f-requires
f-requires g c = c.requires.2 [] c.requires.1 c.args.first c.args.item refl
    (Contains-append_left c.requires.0 [] _ c.requires.3)
    (Contains-append_left c.requires.0 [] _ c.requires.4)

pub returns : goal.returns
returns g c test is = is.1 _ _ _ (says_at_two g.F.Fn c.f.ensures refl)
    ∙ sym (ap (λ t. t (c.args.first.now, tt) (c.args.item.now, tt)) is.2)
