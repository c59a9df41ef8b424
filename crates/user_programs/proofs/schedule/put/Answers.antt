use Rattle.user_programs.proofs.schedule.put.Goals as goal
use Rattle.std.proofs.Common.{◌≡◌, Bool, true, false, cond, List, [], ◌∷◌, refl, ap, sym, ◌∙◌}
use Rattle.std.proofs.Common.{nat_eq}
use Rattle.std.specs.Prelude.{Option, Some, None}
use Rattle.std.specs.Map.{lookup, set_value}

-- A key that is not there gets no value.
absent_at : {K X : Type 0} (b : Bool) (e : K × X) (es rest : List (K × X)) (found : Option X)
    (w : X) → (found ≡ None → rest ≡ es) → cond b (Some e.1) found ≡ None
    → cond b ((e.0, w) ∷ es) (e ∷ rest) ≡ e ∷ es
absent_at true e es rest found w same none = cc
absent_at false e es rest found w same none = ap (λ l. e ∷ l) (same none)

absent : {K X : Type 0} (test : K → Bool) (es : List (K × X)) (w : X) → lookup test es ≡ None
    → set_value test es w ≡ es
absent test [] w none = refl
absent test (e ∷ es) w none =
    absent_at (test e.0) e es (set_value test es w) (lookup test es) w (absent test es w) none

pub returns-in_default : goal.returns-in_default
returns-in_default c =
    ap (λ m. m.entries) c.get_mut.follows.holds-at-none
    ∙ sym (absent (nat_eq c.args.name) c.args.jobs.now.entries c.args.job
    (sym c.in_default.ensures.value))
