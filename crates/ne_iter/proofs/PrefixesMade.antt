-- The values made of a prefix of a list, and of a list of `Result`s.
use Rattle.std.proofs.Common.{refl, sym, ap, subst, arith, ◌∙◌, ◌<◌, append_assoc, length}
use Rattle.std.proofs.lemmas.List.{length-map, map-append}
use Rattle.std.specs.Prelude.{◌≡◌, Bool, true, false, List, [], ◌∷◌, ◌++◌, map, Result, Ok, Err}
use Rattle.std.specs.Bool.{MatchBool}
use Rattle.std.specs.Result.{result_map_both}
use Rattle.ne_vec.specs.Lists.{IsPrefix}
use Rattle.ne_iter.specs.Collected.{PrefixMakes, values_or_first_err}
use Rattle.ne_iter.specs.LoopLaws.{whole_prefix}

module _ {T V : Type 0} (collected : List T → V → Type 0) (v : V) (xs ys : List T) where
  prefix_made : (whole : Bool) → IsPrefix whole xs ys → collected ys v → MatchBool whole
      (collected xs v)
      ((prefix : List T) × (more : List T) × (xs ≡ prefix ++ more) × collected prefix v)
  prefix_made true f h = subst (λ l. collected l v) (whole_prefix xs ys f) h
  prefix_made false f h = (ys, f.0, f.1, h)

  -- A prefix of the items made v; if v is complete, all items made v.
  pub prefix_makes : (is_complete : V → Bool) → IsPrefix (is_complete v) xs ys → collected ys v
      → PrefixMakes collected is_complete xs v
  prefix_makes is_complete f h = prefix_made (is_complete v) f h

-- The items that came, and then those of `taken`.
pub more_items : {A : Type 0} (begun yielded taken held after : List A) → after ≡ held ++ taken
    → held ≡ begun ++ yielded → after ≡ begun ++ (yielded ++ taken)
more_items begun yielded taken held after added same =
    added ∙ ap (λ l. l ++ taken) same ∙ append_assoc begun yielded taken

module _ {T E : Type 0} where
  pub all_values : (values : List T) → values_or_first_err {E = E} (map Ok values) ≡ Ok values
  all_values [] = refl
  all_values (v ∷ vs) = ap (result_map_both (λ xs. v ∷ xs) (λ e. e)) (all_values vs)

  first_err : (values : List T) (e : E) (more : List (Result T E))
      → values_or_first_err ((map Ok values ++ Err e ∷ []) ++ more) ≡ Err e
  first_err [] e more = refl
  first_err (v ∷ vs) e more =
      ap (result_map_both (λ xs. v ∷ xs) (λ e. e)) (first_err vs e more)

  -- An `Err` after values is the first one, whatever items follow it.
  pub first_err_at : (items : List (Result T E)) (values : List T) (e : E)
      → items ≡ map Ok values ++ Err e ∷ [] → (more : List (Result T E))
      → values_or_first_err (items ++ more) ≡ Err e
  first_err_at items values e is more =
      ap (λ l. values_or_first_err (l ++ more)) is ∙ first_err values e more

  -- One value more.
  pub one_more : (begun yielded : List (Result T E)) (item : Result T E) (value : T)
      (values after : List T) → item ≡ Ok value → after ≡ values ++ value ∷ []
      → map Ok values ≡ begun ++ yielded → map Ok after ≡ begun ++ (yielded ++ item ∷ [])
  one_more begun yielded item value values after is added same =
      more_items begun yielded (item ∷ []) (map Ok values) (map Ok after) (ap (map Ok) added
      ∙ map-append Ok values (value ∷ []) ∙ ap (λ r. map Ok values ++ r ∷ []) (sym is)) same

  -- The values so far are those of the items so far, the first one among them.
  pub are_values : (first : Result T E) (value : T) (empty begun values : List T)
      (yielded : List (Result T E)) → first ≡ Ok value → empty ≡ [] → begun ≡ empty ++ value ∷ []
      → map Ok values ≡ map Ok begun ++ yielded → first ∷ yielded ≡ map Ok values
  are_values first value empty begun values yielded is none one same = ap (λ r. r ∷ yielded) is
      ∙ sym (same ∙ ap (λ l. map Ok l ++ yielded) (one ∙ ap (λ l. l ++ value ∷ []) none))

  -- Items that are values, the first one among them.
  pub some_value : (first : Result T E) (yielded : List (Result T E)) (values : List T)
      → first ∷ yielded ≡ map Ok values → 0 < length values
  some_value first yielded values are =
      let long : length (map {B = Result T E} Ok values) ≡ length values = length-map values _ in
      omega (arith, ap length are, long)

  -- The values so far, if an `Err` was yielded after them.
  pub up_to_err : (items : List (Result T E)) (item : Result T E) (e : E) (values : List T)
      → item ≡ Err e → items ≡ map Ok values → items ++ item ∷ [] ≡ map Ok values ++ Err e ∷ []
  up_to_err items item e values is same = ap (λ r. items ++ r ∷ []) is
      ∙ ap (λ l. l ++ Err e ∷ []) same
