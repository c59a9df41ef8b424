-- The values that the items of a list make when collected into a type of the standard library.
use Rattle.std.specs.Prelude.{◌≡◌, Bool, List, [], ◌∷◌, ◌++◌, reverse, map, Option, Result, Ok, Err}
use Rattle.std.specs.Prelude.{MatchResult}
use Rattle.std.specs.Bool.{MatchBool}
use Rattle.std.specs.List.{IsDistinct, filter_map}
use Rattle.std.specs.Map.{keys_of, lookup}
use Rattle.std.specs.Result.{result_err, result_map_both}
use Rattle.std.specs.Set.{is_member}

module _ {K : Type 0} (eq : K → K → Bool) where
  -- The value of the last pair whose key equals q, if there is one.
  abbrev pub last_value : {V : Type 0} → List (K × V) → K → Option V
  last_value pairs q = lookup (eq q) (reverse pairs)

  -- The entries are the map of the pairs: each key once, with the value of its last pair.
  abbrev pub IsMapOfPairs : {V : Type 0} → List (K × V) → List (K × V) → Type 0
  IsMapOfPairs pairs entries = IsDistinct eq (keys_of entries)
      × ((q : K) → lookup (eq q) entries ≡ last_value pairs q)

  -- The keys are the set of the items: each item is there once, and nothing else is.
  abbrev pub IsSetOf : List K → List K → Type 0
  IsSetOf items keys = IsDistinct eq keys × ((q : K) → is_member eq keys q ≡ is_member eq items q)

-- The items `after` are those of `before`, followed by a list that was read.
abbrev pub AppendsRead : {A : Type 0} → (List A → Type 0) → List A → List A → Type 0
AppendsRead {A} read before after = (xs : List A) × read xs × (after ≡ before ++ xs)

-- `Ok` of all values, or the first `Err`.
abbrev pub values_or_first_err : {T E : Type 0} → List (Result T E) → Result (List T) E
values_or_first_err [] = Ok []
values_or_first_err (Ok x ∷ rs) = result_map_both (λ xs. x ∷ xs) (λ e. e) (values_or_first_err rs)
values_or_first_err (Err e ∷ rs) = Err e

-- `Ok` of all values if each item is `Ok`, and otherwise `Err` of all errors, in order. That there
-- is no error in a list of values is for the automatic proof.
abbrev pub IsAllOrErrors : {T E : Type 0} → List (Result T E) → Result (List T) (List E) → Type 0
IsAllOrErrors rs result = MatchResult result
    (λ values. (rs ≡ map Ok values) × (filter_map result_err rs ≡ []))
    (λ errors. errors ≡ filter_map result_err rs)

module _ {T V : Type 0} (collected : List T → V → Type 0) (is_complete : V → Bool) where
  -- The items make v; if v is not complete, a prefix of the items makes v.
  abbrev pub PrefixMakes : List T → V → Type 0
  PrefixMakes items v = MatchBool (is_complete v) (collected items v)
      ((prefix : List T) × (more : List T) × (items ≡ prefix ++ more) × collected prefix v)

  -- The result is `Ok` of the value made if each item is `Ok`, and otherwise the first `Err`, which
  -- is the last item, and so the first `Err` of each list that begins with the items.
  abbrev pub ResultsMake : {E : Type 0} → List (Result T E) → Result V E → Type 0
  ResultsMake {E} items result = MatchResult result
      (λ v. (values : List T) × (items ≡ map Ok values)
      × (values_or_first_err items ≡ Ok values) × PrefixMakes values v)
      (λ e. (values : List T) × (items ≡ map Ok values ++ Err e ∷ [])
      × ((more : List (Result T E)) → values_or_first_err (items ++ more) ≡ Err e))
