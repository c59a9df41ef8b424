use Rattle.ne_products.proofs.products.NonEmptyItertools.into_group_map_by.Given as goal
use Rattle.std.proofs.Common.{[]}
use Rattle.std.specs.List.{FoldsTo}
use Rattle.ne_products.specs.ByKey.{AddsLast, KeyTurn}

-- The turns over the items so far led from the closure and groups at the loop's start to those now.
abbrev pub invariant-loop-x : goal.invariant-loop-x
invariant-loop-x g l =
    FoldsTo (KeyTurn g.F.FnMut AddsLast g.M.KeyedMap.key_view g.M.KeyedMap.same [])
    (l.initial.key, (tt, g.M.KeyedMap.value l.initial.groups)) l.yielded
    (l.key, (tt, g.M.KeyedMap.value l.groups))
