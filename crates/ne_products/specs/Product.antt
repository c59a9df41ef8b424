-- The parts of a `Product` and of its `ProductIter`, and what a call of `next` does.
use Rattle.std.specs.Prelude.{◌⊎◌}
use Rattle.std.specs.Prelude.{◌≡◌, ℕ, ◌+◌, ◌*◌, ◌≤◌, Bool, true, false, ⊤, Option, None, Some}
use Rattle.std.specs.Prelude.{MatchOption, Result, MatchResult}
use Rattle.std.specs.Bool.{MatchBool}
use Rattle.std.specs.Option.{option_len}
use Rattle.std.specs.Iterator.{Count, IsFinite, size, count_map, count_unless}
use Rattle.ne_products.specs.declared.products.Product.{Product}
use Rattle.ne_products.specs.declared.products.ProductIter.{ProductIter}

-- The source of the first items of the pairs.
abbrev pub product_first : {I J : Type 0} → Product I J → I
product_first s = s.a

-- The source of the second items of the pairs.
abbrev pub product_second : {I J : Type 0} → Product I J → J
product_second s = s.b

-- The iterator over the left side of a `ProductIter`.
abbrev pub left_of : {I J X : Type 0} → ProductIter I J X → I
left_of s = s.left

-- The iterator over the right side of a `ProductIter`.
abbrev pub right_of : {I J X : Type 0} → ProductIter I J X → J
right_of s = s.right

-- The item of the left side that this row pairs, if it is held.
abbrev pub row_of : {I J X : Type 0} → ProductIter I J X → Option X
row_of s = s.row

-- The iterator that is cloned for each row after the first.
abbrev pub restart_of : {I J X : Type 0} → ProductIter I J X → Option J
restart_of s = s.restart

-- Whether a `ProductIter` is exhausted.
abbrev pub is_exhausted : {I J X : Type 0} → ProductIter I J X → Bool
is_exhausted s = s.is_over

-- Each clone of c can be called, and yields no more items than c.
abbrev pub CanRestart : {J : Type 0} → (J → Type 0) → (J → Count) → (J → J → Type 0) → J → Type 0
CanRestart {J} can left clones c = IsFinite (left c)
    × ((d : J) → clones c d → can d × IsFinite (left d) × (size (left d) ≤ size (left c)))

-- s can be called: unless it is exhausted, its sides can, and the right one and its clones end.
abbrev pub CanPair : {I J X : Type 0} → (I → Type 0) → (J → Type 0) → (J → Count)
    → (J → J → Type 0) → ProductIter I J X → Type 0
CanPair can_left can_right left clones s = is_exhausted s ≡ false
    → can_left (left_of s) × can_right (right_of s) × IsFinite (left (right_of s))
    × MatchOption (restart_of s) ⊤ (CanRestart can_right left clones)

-- How many items a row after the first has, at most.
abbrev pub row_size : {J : Type 0} → (J → Count) → Option J → ℕ
row_size left None = 0
row_size left (Some c) = size (left c)

-- How many results s has left, at most: this row's, a row for each further left item, an `Err`.
abbrev pub pairs_left : {I J X : Type 0} → (I → Count) → (J → Count) → ProductIter I J X → Count
pairs_left lefts rights s = count_unless (is_exhausted s)
    (count_map (λ n. (n + option_len (row_of s)) * row_size rights (restart_of s)
    + size (rights (right_of s)) + 1) (lefts (left_of s)))

-- s becomes `it`, at the start of both sides, with a clone of the right one unless that failed.
abbrev pub MakesProduct : {U V I J X : Type 0} → (U → I → Type 0) → (V → J → Type 0)
    → (J → J → Type 0) → (J → Type 0) → Product U V → ProductIter I J X → Type 0
MakesProduct lefts rights clones infallible s it = lefts (product_first s) (left_of it)
    × rights (product_second s) (right_of it)
    × MatchOption (restart_of it) (infallible (right_of it) → ⊥) (clones (right_of it))
    × (row_of it ≡ None) × (is_exhausted it ≡ false)

-- x is the item of this row, held or drawn now, and l is the left side after x was drawn.
abbrev pub IsRowItem : {I J A : Type 0} → (I → Option A → I → Type 0) → ProductIter I J A → A → I
    → Type 0
IsRowItem draws s x l = ((row_of s ≡ Some x) × (l ≡ left_of s))
    ⊎ ((row_of s ≡ None) × draws (left_of s) (Some x) l)

module _ {I J A B : Type 0} (lefts : I → Option A → I → Type 0)
    (rights : J → Option B → J → Type 0) (clones : A → A → Type 0) (infallible : A → Type 0)
    (copies : J → J → Type 0) (certain : J → Type 0) where
  -- This row has ended, l is the left side after its item, and P holds for `restart_of` s.
  abbrev pub EndsRow : ProductIter I J A → I → (J → Type 0) → Type 0
  EndsRow s l P = (w : A) × (j : J) × (c : J) × IsRowItem lefts s w l × rights (right_of s) None j
      × (restart_of s ≡ Some c) × P c

  -- The next pair is that of x and y, in this row or the next, and the sides are l and r after it.
  abbrev pub IsNextPair : ProductIter I J A → A → B → I → J → Type 0
  IsNextPair s x y l r = (IsRowItem lefts s x l × rights (right_of s) (Some y) r)
      ⊎ ((k : I) × (d : J) × EndsRow s k (λ c. copies c d) × lefts k (Some x) l
      × rights d (Some y) r)

  -- The call yields p: a clone of the first part of the next pair, and that pair's second part.
  abbrev pub GivesPair : ProductIter I J A → A × B → ProductIter I J A → Type 0
  GivesPair s p t = (x : A) × (row_of t ≡ Some x) × clones x p.0 × (is_exhausted t ≡ false)
      × (restart_of t ≡ restart_of s) × IsNextPair s x p.1 (left_of t) (right_of t)

  -- The product has ended: the left side has, or the right side began again with no item.
  abbrev pub EndsPairs : ProductIter I J A → Type 0
  EndsPairs s = ((u : I) × (row_of s ≡ None) × lefts (left_of s) None u)
      ⊎ (((w : A) × (l : I) × (j : J) × (u : I) × IsRowItem lefts s w l × rights (right_of s) None j
      × lefts l None u)
      ⊎ ((l : I) × (d : J) × (x : A) × (u : I) × (k : J) × EndsRow s l (λ c. copies c d)
      × lefts l (Some x) u × rights d None k))

  -- A clone for the next pair failed: of the right side beforehand, of an item, or for a new row.
  abbrev pub RefusesClone : ProductIter I J A → Type 0
  RefusesClone s = (restart_of s ≡ None)
      ⊎ (((x : A) × (y : B) × (l : I) × (r : J) × IsNextPair s x y l r × (infallible x → ⊥))
      ⊎ ((l : I) × (x : A) × (u : I) × EndsRow s l (λ c. certain c → ⊥) × lefts l (Some x) u))

  -- One call of `next`. After the end or an `Err`, the call returns `None` and draws nothing.
  abbrev pub PairsNext : {E : Type 0} → ProductIter I J A → Option (Result (A × B) E)
      → ProductIter I J A → Type 0
  PairsNext s r t = MatchBool (is_exhausted s) ((r ≡ None) × (t ≡ s))
      (MatchOption r (EndsPairs s × (is_exhausted t ≡ true)) (λ z. MatchResult z
      (λ p. GivesPair s p t) (λ _. RefusesClone s × (is_exhausted t ≡ true))))

-- A clone of the row's item x is paired with y, and t holds x; or the clone failed, and t is s.
abbrev pub PairsItems : {I J A B E : Type 0} → (A → A → Type 0) → (A → Type 0) → ProductIter I J A
    → A → B → Result (A × B) E → ProductIter I J A → Type 0
PairsItems clones infallible s x y r t = MatchResult r
    (λ p. clones x p.0 × (p.1 ≡ y) × (t ≡ record s { row = Some x; is_over = false }))
    (λ _. (infallible x → ⊥) × (t ≡ s))

-- A further row begins with a clone of the clone made beforehand, or one of the two clones failed.
abbrev pub TriesRestart : {J E : Type 0} → (J → J → Type 0) → (J → Type 0) → Option J → Result J E
    → Type 0
TriesRestart {J} copies certain o r = MatchResult r (λ d. (c : J) × (o ≡ Some c) × copies c d)
    (λ _. (o ≡ None) ⊎ ((c : J) × (o ≡ Some c) × (certain c → ⊥)))
