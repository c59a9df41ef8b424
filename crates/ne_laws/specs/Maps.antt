-- For the trait `NonEmptyMap`: a map with at least one key, as the list of its entries.
use Rattle.std.specs.Prelude.{◌≡◌, ◌+◌, ◌<◌, Bool, cond, List, length, Option, None, Some, is_some}
use Rattle.std.specs.Prelude.{if◌then◌else◌, MatchOption}
use Rattle.std.specs.List.{IsDistinct}
use Rattle.std.specs.Map.{keys_of, lookup}
use Rattle.nonempty_collections.specs.Taken.{TakesFoundUnlessLast}

module _ {K V : Type 0} (eq : K → K → Bool) where
  -- No two keys are equal, and there is at least one key.
  abbrev pub IsNonEmptyMap : List (K × V) → Type 0
  IsNonEmptyMap es = IsDistinct eq (keys_of es) × (0 < length es)

  -- fs has v at the key k, the same as es at each other key, and one key more than es if k is new.
  abbrev pub Puts : List (K × V) → K → V → List (K × V) → Type 0
  Puts es k v fs = ((q : K) → lookup (eq q) fs ≡ cond (eq k q) (Some v) (lookup (eq q) es))
      × (length fs ≡ length es + (if is_some (lookup (eq k) es) then 0 else 1))

  -- If es has the key k, fs is es with v at k. If it does not, nothing changes.
  abbrev pub Writes : List (K × V) → K → V → List (K × V) → Type 0
  Writes es k v fs = MatchOption (lookup (eq k) es) (fs ≡ es) (λ _. Puts es k v fs)

  -- fs lacks the key k, has the same as es at each other key, and has one key less than es.
  abbrev pub Removes : List (K × V) → K → List (K × V) → Type 0
  Removes es k fs = ((q : K) → lookup (eq q) fs ≡ cond (eq k q) None (lookup (eq q) es))
      × (length fs + 1 ≡ length es)

  -- The value of the key k is taken from es, which leaves fs, unless k is absent or the only key.
  abbrev pub Takes : List (K × V) → K → Option V → List (K × V) → Type 0
  Takes es k old fs = TakesFoundUnlessLast (lookup (eq k) es ≡ None) es fs old
      (λ v. (lookup (eq k) es ≡ Some v) × Removes es k fs)
