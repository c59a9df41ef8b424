-- What `numbered` collects, a chain of four adapters.
use Rattle.std.specs.Prelude.{◌≡◌, ◌≤◌, ℕ, Bool, ◌||◌, ◌&&◌, ltb, List, ◌++◌, length}
use Rattle.std.specs.Fn.{Mut}
use Rattle.std.specs.List.{enumerate_from}
use Rattle.ne_iter.specs.Calls.{Calls}

-- There are at most n items, each with its index. If there are fewer and c is complete, both
-- sources have ended.
-- c is made of what f returns for the source's items, followed by the items of the other source.
pub record IsNumbered {S A B F O C : Type 0} (reads : Bool → S → List A → Type 0)
    (calls : Mut F (A × Unit {0}) B) (others : Bool → O → List B → Type 0) (complete : C → Bool)
    (collected : List (ℕ × B) → C → Type 0) (source : S) (f : F) (other : O) (n : ℕ) (c : C)
    : Type 0 where
  pub items : List A
  pub results : List B
  pub other_items : List B
  pub f_then : F
  pub whole : Bool
  pub read : reads (whole || ltb 0 (length other_items)) source items
  pub called : Calls calls f items results f_then
  pub read_other : others whole other other_items
  pub is_whole : whole ≡ complete c && ltb (length (results ++ other_items)) n
  pub at_most : length (results ++ other_items) ≤ n
  pub made : collected (enumerate_from 0 (results ++ other_items)) c
