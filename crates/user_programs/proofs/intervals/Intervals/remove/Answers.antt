use Rattle.user_programs.proofs.intervals.Intervals.remove.Goals as goal
use Rattle.std.proofs.Common.{◌≡◌, ℕ, arith, false, subst}
use Rattle.std.specs.BTreeMap.{BTreeMap, is_at, Updates}
use Rattle.std.specs.Option.{IfSome}
use Rattle.std.specs.Ordering.{nat_cmp}
use Rattle.std.specs.Prelude.{Option, Some, None, MatchOption, ◌↔◌}
use Rattle.user_programs.proofs.Joined.{points_left}
use Rattle.user_programs.specs.Points.{end_of, without, IsIntervalSet, Covers, IsWithin}

not_at : (k s : ℕ) → (s ≡ k → ⊥) → is_at (nat_cmp k) s ≡ false
not_at k s differ = grind arith

points : (m n : BTreeMap ℕ ℕ) (k : ℕ) (r : Option ℕ) → IsIntervalSet m.entries
    → MatchOption r (n.entries ≡ m.entries) (λ end. (end_of m.entries k ≡ Some end)
    × (n.entries ≡ without k m.entries))
    → IfSome r (λ _. Updates nat_cmp m n k None)
    → IfSome r (λ end. (x : ℕ) → Covers n.entries x ↔ (Covers m.entries x
    × (IsWithin k end x → ⊥)))
points m n k None apart taken updates = tt
points m n k (Some end) apart taken updates =
    points_left (end_of m.entries) (end_of n.entries) k end apart.apart taken.0 updates.1
    (λ s differ. updates.2 s (not_at k s differ))

pub returns-clause-points : goal.returns-clause-points
returns-clause-points c =
    subst (λ old. IfSome c.remove.result (λ end. (x : ℕ) → Covers c.remove.new.self.entries x
    ↔ (Covers old x × (IsWithin c.args.start end x → ⊥)))) c.self.view_is
    (points c.self.inside.map c.remove.new.self c.args.start c.remove.result c.self.invariant
    c.remove.ensures.entries.1 c.remove.ensures.updates)
