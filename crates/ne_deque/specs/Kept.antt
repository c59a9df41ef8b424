-- The items that `retain` and `retain_mut` keep.
use Rattle.std.specs.Prelude.{Result, Ok, Err, List}
use Rattle.std.specs.Global.{Global}
use Rattle.std.specs.declared.collections.VecDeque.{VecDeque}

-- The items that are returned, in a non-empty queue or in the empty one.
abbrev pub kept_items : {X : Type 0} → Result (List X) (VecDeque X Global) → List X
kept_items (Ok q) = q
kept_items (Err q) = q.items
