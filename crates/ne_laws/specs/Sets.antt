-- For the trait `NonEmptySet`: a set with at least one item, as the list of its items.
use Rattle.std.specs.Prelude.{◌≡◌, ◌+◌, ◌<◌, Bool, cond, List, length, None, Some, is_some}
use Rattle.std.specs.Prelude.{if◌then◌else◌, MatchOption}
use Rattle.std.specs.List.{find, IsDistinct}
use Rattle.nonempty_collections.specs.Taken.{RemovesFoundUnlessLast}

module _ {T : Type 0} (eq : T → T → Bool) where
  -- No two items are equal, and there is at least one.
  abbrev pub IsNonEmptySet : List T → Type 0
  IsNonEmptySet xs = IsDistinct eq xs × (0 < length xs)

  -- ys has x, the same as xs at each other item, and one item more than xs if none equals x.
  abbrev pub Puts : List T → T → List T → Type 0
  Puts xs x ys = ((q : T) → find (eq q) ys ≡ cond (eq x q) (Some x) (find (eq q) xs))
      × (length ys ≡ length xs + (if is_some (find (eq x) xs) then 0 else 1))

  -- If no item of xs equals x, ys is xs with x. If one does, nothing changes.
  abbrev pub Adds : List T → T → List T → Type 0
  Adds xs x ys = MatchOption (find (eq x) xs) (Puts xs x ys) (λ _. ys ≡ xs)

  -- ys lacks x, has the same as xs at each other item, and has one item less than xs.
  abbrev pub Removes : List T → T → List T → Type 0
  Removes xs x ys = ((q : T) → find (eq q) ys ≡ cond (eq x q) None (find (eq q) xs))
      × (length ys + 1 ≡ length xs)

  -- The item equal to x is removed from xs, which leaves ys, unless x is absent or the only item.
  abbrev pub Discards : List T → T → Bool → List T → Type 0
  Discards xs x removed ys =
      RemovesFoundUnlessLast (find (eq x) xs ≡ None) xs ys removed (Removes xs x ys)
