use Rattle.ne_products.proofs.products.NonEmptyItertools.all_unique.Given as goal
use Rattle.std.proofs.Common.{◌≡◌}
use Rattle.std.specs.List.{IsDistinct}
use Rattle.std.specs.HashSet.{contains}
use Rattle.std.specs.Set.{is_member}

-- The items so far are distinct, and the set holds them and nothing else.
abbrev pub invariant-loop-item : goal.invariant-loop-item
invariant-loop-item g l = IsDistinct g.Self.Item.PartialEq.eq l.yielded
    × ((q : _) → contains g.Self.Item.PartialEq.eq l.seen q
    ≡ is_member g.Self.Item.PartialEq.eq l.yielded q)
