-- The texts of the items, as `{}` shows them, joined into one. `output x` is the text of x, if its
-- type says it.
use Rattle.std.specs.Prelude.{◌≡◌, ℕ, List, [], Option, Some, IsSome}
use Rattle.std.specs.List.{join_by}
use Rattle.std.specs.Option.{unwrap_or}
use Rattle.ne_vec.specs.Lists.{View}

module _ {A : Type 0} (output : A → Option (List ℕ)) where
  -- Each value of the type has a text.
  abbrev pub HasTexts : Type 0
  HasTexts = (x : A) → IsSome (output x)

  -- The text of x, or none.
  abbrev pub text_of : A → List ℕ
  text_of x = unwrap_or (output x) []

  -- If the text of each item is what `show` returns for it, seen through `view`, `text` is these
  -- with the separator between each two.
  abbrev pub IsJoined : (view : View A) → List ℕ → List view.Target → List ℕ → Type 0
  IsJoined view separator xs text = (show : view.Target → List ℕ)
      → ((x : A) → output x ≡ Some (show (view.of x))) → text ≡ join_by show separator xs
