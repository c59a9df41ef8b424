-- The keys of a list, each once, in the order of their first appearance.
use Rattle.std.specs.Prelude.{◌≡◌, Bool, cond, List, [], ◌∷◌, ◌++◌}
use Rattle.std.specs.Map.{keys_of}
use Rattle.std.specs.Set.{is_member}
use Rattle.ne_iter.specs.Collected.{IsMapOfPairs}

module _ {K : Type 0} (eq : K → K → Bool) where
  -- The keys of a list that follows `before`, without those that equal an earlier key.
  abbrev pub first_seen : List K → List K → List K
  first_seen before [] = []
  first_seen before (x ∷ xs) = cond (is_member eq before x) (first_seen (before ++ x ∷ []) xs)
      (x ∷ first_seen (before ++ x ∷ []) xs)

  -- The keys in order of first appearance, each once.
  abbrev pub key_list : List K → List K
  key_list xs = first_seen [] xs

  -- The entries are the map of the pairs, and their keys are the key list, in this order.
  abbrev pub IsKeyListMapOf : {V : Type 0} → List (K × V) → List (K × V) → Type 0
  IsKeyListMapOf pairs entries = (keys_of entries ≡ key_list (keys_of pairs))
      × IsMapOfPairs eq pairs entries
