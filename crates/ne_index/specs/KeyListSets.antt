-- For `NEIndexSet`: the set of the items of a list, in the order in which they first appear.
use Rattle.std.specs.Prelude.{◌≡◌, Bool, List}
use Rattle.ne_iter.specs.Collected.{IsSetOf}
use Rattle.ne_iter.specs.Keyed.KeyList.{key_list}

-- The keys are the key list of the items, and so their set.
abbrev pub IsKeyListSetOf : {T : Type 0} → (T → T → Bool) → List T → List T → Type 0
IsKeyListSetOf eq items keys = (keys ≡ key_list eq items) × IsSetOf eq items keys
