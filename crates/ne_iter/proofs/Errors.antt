-- The errors of a list of results.
use Rattle.std.proofs.Common.{◌∙◌}
use Rattle.std.specs.Prelude.{◌≡◌, List, [], ◌∷◌, ◌++◌, map, refl, Result, Ok, Err}
use Rattle.std.specs.List.{filter_map}
use Rattle.std.specs.Result.{result_err}
use Rattle.std.proofs.lemmas.List.{append-nil}
use Rattle.std.proofs.lemmas.List.Elements.{filter_map-append}

module _ {T E : Type 0} where
  -- The errors of values, of an error after them, and of what follows it.
  pub errors_after : (values : List T) (e : E) (rs : List (Result T E))
      → filter_map result_err ((map Ok values ++ Err e ∷ []) ++ rs) ≡ e ∷ filter_map result_err rs
  errors_after [] e rs = refl
  errors_after (x ∷ xs) e rs = errors_after xs e rs

  pub no_error : (values : List T) → filter_map (result_err {T = T} {E = E}) (map Ok values) ≡ []
  no_error [] = refl
  no_error (x ∷ xs) = no_error xs

  pub error_more : (rs : List (Result T E)) (e : E) → filter_map result_err (rs ++ Err e ∷ [])
      ≡ filter_map result_err rs ++ e ∷ []
  error_more rs e = filter_map-append result_err rs (Err e ∷ [])

  pub value_more : (rs : List (Result T E)) (x : T) → filter_map result_err (rs ++ Ok x ∷ [])
      ≡ filter_map result_err rs
  value_more rs x = filter_map-append result_err rs (Ok x ∷ []) ∙ append-nil _
