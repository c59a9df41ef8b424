-- `try_group_by`: how its closure divides items. Its runs are those of `runs_by` with the test of
-- two items by their keys.
use Rattle.std.specs.Prelude.{◌≡◌, Bool, Result, Ok}
use Rattle.std.specs.Borrow.{Bor}
use Rattle.std.specs.Fn.{Shared, FnReturnsAt}
use Rattle.std.specs.declared.alloc.AllocError.{AllocError}
use Rattle.ne_iter.specs.GroupingRuns.{RunTest}
use Rattle.ne_iter.specs.Keys.{same_key}

module _ {A K F : Type 0} (calls : Shared F (Bor A × Unit {0}) (Result K AllocError))
    (eq : K → K → Bool) where
  -- The closure gives the keys, unless it returns an `Err`; items with equal keys make a run.
  abbrev pub by_tried_key : RunTest F A K
  by_tried_key = record {
    keys = λ f x k g. FnReturnsAt calls f x (Ok k) × (g ≡ f);
    tests = λ f test. test ≡ same_key eq;
  }

  -- The test of two items by their keys. It may be called if f may be called with each item, and
  -- may return what eq says of two keys that f may return for them.
  abbrev pub by_keys : Shared F (Bor A × (Bor A × Unit {0})) Bool
  by_keys =
      let returns : F → Bor A × (Bor A × Unit {0}) → Bool → Type 0 = λ f a r. (k l : K)
      × calls.post f (a.0, tt) (Ok k) × calls.post f (a.1.0, tt) (Ok l) × (r ≡ eq k l) in record {
        pre = λ f a. calls.pre f (a.0, tt) × calls.pre f (a.1.0, tt);
        post = returns;
        steps = λ f a r g. returns f a r × (g ≡ f);
      }
