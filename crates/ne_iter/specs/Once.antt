-- A source of one item.
use Rattle.std.proofs.Common.{rules}
use Rattle.std.specs.Prelude.{Some, ◌≡◌}
use Rattle.std.specs.Iterator.Adapters.{once_item as std_once_item, once_steps}
use Rattle.std.specs.declared.iter.Once.{Once as StdOnce}
use Rattle.ne_iter.specs.declared.iter.one_item.Once.{Once}
use Rattle.ne_iter.specs.Sources.{HasFirst}

-- The item.
abbrev pub once_item : {T : Type 0} → Once T → T
once_item s = s.item

-- The iterator over one item yields an item first.
pub HasFirst-once : {A : Type 0} (it : StdOnce A) (x : A) → std_once_item it ≡ Some x
    → HasFirst once_steps it
HasFirst-once it x e t ended = let f = ended.0 in search rules
