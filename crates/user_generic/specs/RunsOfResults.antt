-- What `runs_of_results` collects, a chain of `map` and `group_by`.
use Rattle.std.specs.Prelude.{Bool, true, List}
use Rattle.std.specs.Borrow.{Bor}
use Rattle.std.specs.Fn.{Mut}
use Rattle.ne_iter.specs.Calls.{Calls, CallsEachAt}
use Rattle.ne_iter.specs.Keys.{items_of, DividesByKey}

-- rs are the runs of what f returns for all items of the source, by the keys that `key` returns.
pub record AreRunsOfResults {S A T K F G : Type 0} (reads : Bool → S → List A → Type 0)
    (calls : Mut F (A × Unit {0}) T) (key_calls : Mut G (Bor T × Unit {0}) K) (eq : K → K → Bool)
    (source : S) (f : F) (key : G) (rs : List (List T)) : Type 0 where
  pub items : List A
  pub results : List (T × K)
  pub f_then : F
  pub key_then : G
  pub read : reads true source items
  pub called : Calls calls f items (items_of results) f_then
  pub keys_called : CallsEachAt key_calls key results key_then
  pub divided : DividesByKey eq results rs
