-- Methods that remove an item, but never the only one. If they remove none, the list is unchanged.
-- Otherwise `taken` says which item is returned and which are left, and `left` the latter alone.
use Rattle.std.specs.Prelude.{◌≡◌, ◌↔◌, ◌⊎◌, Bool, false, List, Option, None, MatchBool}
use Rattle.std.specs.Prelude.{MatchOption, length}

-- The result is `None` if and only if the list has one item; otherwise it is as `taken` says.
abbrev pub TakesUnlessLast : {A : Type 0} → List A → List A → Option A → (A → Type 0) → Type 0
TakesUnlessLast old new result taken = ((result ≡ None) ↔ (length old ≡ 1))
    × MatchOption result (new ≡ old) taken

-- The result is `None` if and only if the item is absent or the list has one item.
abbrev pub TakesFoundUnlessLast : {A B : Type 0} → Type 0 → List A → List A → Option B
    → (B → Type 0) → Type 0
TakesFoundUnlessLast absent old new result taken =
    ((result ≡ None) ↔ (absent ⊎ (length old ≡ 1))) × MatchOption result (new ≡ old) taken

-- The result is `false` if and only if the item is absent or the list has one item.
abbrev pub RemovesFoundUnlessLast : {A : Type 0} → Type 0 → List A → List A → Bool → Type 0
    → Type 0
RemovesFoundUnlessLast absent old new result left =
    ((result ≡ false) ↔ (absent ⊎ (length old ≡ 1))) × MatchBool result left (new ≡ old)
