use Rattle.user_programs.proofs.intervals.Intervals.insert.Goals as goal
use Rattle.std.proofs.Common.{◌≡◌, ℕ, List, subst}
use Rattle.std.specs.Prelude.{◌↔◌, ◌⊎◌}
use Rattle.user_programs.proofs.Determined.{only_set}
use Rattle.user_programs.specs.Points.{Covers, IsIntervalSet, IsWithin}

pub returns-clause-only : goal.returns-clause-only
returns-clause-only c =
    let new = c.join.new.map.entries in
    subst (λ old. (s : List (ℕ × ℕ)) → IsIntervalSet s → ((x : ℕ) → Covers s x
    ↔ (Covers old x ⊎ IsWithin c.args.start c.args.end x)) → new ≡ s) c.self.view_is
    (only_set c.args.start c.args.end c.self.inside.map.entries new c.in_ok-join.ensures.set
    c.in_ok-join.ensures.points)

pub returns-clause-points : goal.returns-clause-points
returns-clause-points c =
    subst (λ old. (x : ℕ) → Covers c.join.new.map.entries x
    ↔ (Covers old x ⊎ IsWithin c.args.start c.args.end x)) c.self.view_is
    c.in_ok-join.ensures.points
