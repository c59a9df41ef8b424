-- Proofs, for the crates of maps and sets, that their iterators yield all entries that they have
-- left, and yield an entry first if there is one.
use Rattle.std.proofs.Common.{arith, ap, subst, refl, ◌≡◌, ◌<◌, ◌∙◌, length, List, map}
use Rattle.std.specs.Map.Iter.{LendsFirst, TakesFirst}
use Rattle.std.specs.Prelude.{ℕ, IfSome, None, Option, Some, slice_get}
use Rattle.ne_vec.specs.Lists.{IsPrefix, Listed, Lists}
use Rattle.ne_vec.specs.ListLaws.{triggered, viewed_prefix}
use Rattle.ne_iter.specs.Keyed.Iterators.{FindsEach, IteratesKnown}
use Rattle.ne_iter.specs.Sources.{HasFirst, SameLists}
use Rattle.ne_iter.specs.SourceLaws.{SameLists-through}

-- Each entry has its value at its key if that is so of the key and the value at each place.
pub finds_each : {K V : Type 0} (value : K → Option V) (es : List (K × V))
    → ((i : ℕ) (k : K) (v : V) → slice_get es i ≡ Some (k, v) → value k ≡ Some v)
    → FindsEach value es
finds_each {K} {V} value es found i = at (slice_get es i) refl
  where
    at : (o : Option (K × V)) → slice_get es i ≡ o → IfSome o (λ e. value e.0 ≡ Some e.1)
    at None is = tt
    at (Some e) is = found i e.0 e.1 is

-- An iterator whose value is the list of the entries that it has left.
pub HasFirst-entries : {A X : Type 0} (shows : A → X) (it : List X) → 0 < length it
    → HasFirst (TakesFirst shows) it
HasFirst-entries shows it some t ended = omega (arith, some, ap length ended.0)

-- An iterator that returns mutable references to values.
pub HasFirst-lent : {S K X : Type 0} (rest : S → List (K × X)) (it : S) → 0 < length (rest it)
    → HasFirst (LendsFirst rest) it
HasFirst-lent rest it some t ended = omega (arith, some, ap length ended.0)

module _ {A X : Type 0} (known : List X → Type 0) (shows : A → X) where
  all_given : (w es : List X) → w ≡ es → Lists (IteratesKnown known) (TakesFirst shows) shows w es
  unfolding Lists
  all_given w es same it made whole ys given =
      subst (λ l. IsPrefix whole l (map shows ys)) (made.1 ∙ same)
      (viewed_prefix (TakesFirst shows) shows (λ s. s) (λ s t x st. st) (λ s t st. st.0) it ys
      given)

  -- An iterator yields the entries that it has left.
  pub lists_known : (w es : List X) → w ≡ es → Listed (IteratesKnown known) (TakesFirst shows) shows
      w es
  lists_known w es same = (triggered w es, all_given w es same)

  -- `fact` is a further fact about the map or set.
  -- A map or set and the iterator over it that it becomes yield the same lists.
  pub SameLists-entries : {U : Type 0} (entries : U → List X) (fact : U → Type 0)
      → SameLists (λ u it. IteratesKnown known (entries u) it × fact u) (TakesFirst shows)
      (λ u w. (w ≡ entries u) × fact u
      × Listed (IteratesKnown known) (TakesFirst shows) shows w (entries u))
      (IteratesKnown known) (TakesFirst shows)
  SameLists-entries entries fact = SameLists-through _ _ _ _
      (λ u it made. (
        entries u,
        (refl, made.1, lists_known (entries u) (entries u) refl),
        made.0,
      ))
      (λ u w it same made. (subst (λ es. IteratesKnown known es it) same.0 made, same.1))
