use Rattle.ne_iter.proofs.iter.try_group_by.ByTriedKeyDivision.key.Goals as goal
use Rattle.std.proofs.Common.{[], ◌∷◌, ◌≡◌, Ok, Err, refl}
use Rattle.std.proofs.lemmas.Fn.{says_at}
use Rattle.std.proofs.lemmas.List.Elements.{Contains-push}
use Rattle.std.specs.Fn.{FnReturnsAt}
use Rattle.std.specs.Result.{IfOk}

pub f-requires : goal.f-requires
f-requires g c =
    let last = Contains-push c.requires.0 c.args.item.now in
    (c.requires.3 (c.args.item.now ∷ []) c.requires.2 c.args.item c.args.item
    (c.requires.2, c.requires.4, refl) last last).0

pub returns : goal.returns
returns g c = elim c.f.result as (λ r. c.f.result ≡ r
    → IfOk r (λ k. FnReturnsAt g.F.Fn c.args.f.now c.args.item.now (Ok k)
    × (c.args.f.now ≡ c.args.f.now))) [
      | Ok k ↦ λ e. (says_at g.F.Fn c.f.ensures e, refl)
      | Err _ ↦ λ _. tt
    ] refl
