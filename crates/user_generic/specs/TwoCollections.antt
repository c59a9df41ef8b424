-- What `parted` returns, a chain that ends in two collections.
use Rattle.std.specs.Prelude.{◌≡◌, ◌≤◌, ◌<◌, ℕ, Bool, ◌||◌, List, length, IsTrue}
use Rattle.std.specs.Fn.{Mut}
use Rattle.ne_iter.specs.Calls.{Calls}

-- At most n pairs are taken. If there are fewer, one of the two sources has ended. r is made of
-- what f returns for the source's items, and of as many items of the other source.
pub record IsParted {S A B F O D R Q : Type 0} (reads : Bool → S → List A → Type 0)
    (calls : Mut F (A × Unit {0}) B) (others : Bool → O → List D → Type 0)
    (firsts : List B → R → Type 0) (seconds : List D → Q → Type 0)
    (source : S) (f : F) (other : O) (n : ℕ) (r : R × Q) : Type 0 where
  pub items : List A
  pub results : List B
  pub other_items : List D
  pub f_then : F
  pub ended : Bool
  pub other_ended : Bool
  pub read : reads ended source items
  pub called : Calls calls f items results f_then
  pub read_other : others other_ended other other_items
  pub as_many : length results ≡ length other_items
  pub at_most : length other_items ≤ n
  pub fewer : length other_items < n → IsTrue (ended || other_ended)
  pub made : firsts results r.0 × seconds other_items r.1
