use Rattle.ne_products.proofs.products.NonEmptyItertools.fold_by_key.Given as goal
use Rattle.std.specs.List.{FoldsTo}
use Rattle.ne_products.specs.ByKey.{AddsByCall, KeyTurn}

-- The turns over the items so far led from the closures and values at the start to those now.
abbrev pub invariant-loop-x : goal.invariant-loop-x
invariant-loop-x g l =
    FoldsTo (KeyTurn g.F.FnMut (AddsByCall g.G.FnMut) g.M.KeyedMap.key_view
    g.M.KeyedMap.same l.init)
    (l.initial.key, (l.initial.f, g.M.KeyedMap.value l.initial.folded)) l.yielded
    (l.key, (l.f, g.M.KeyedMap.value l.folded))
