-- The value of a grouping in contracts.
use Rattle.ne_iter.specs.declared.iter.divided.State.{State}

-- A grouping: its source as it is now, its closure, and its state.
pub record Grouping (S K A F : Type 0) : Type 0 where
  pub source : S
  pub closure : F
  pub state : State K A
