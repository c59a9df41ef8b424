-- The state of a reader or a writer of std that a run uses, in contracts.
use Rattle.std.specs.Prelude.{Bool}

-- A reader or a writer, whether a call on it has failed, and whether all that it took was flushed.
pub record Device (T : Type 0) : Type 0 where
  pub inner : T
  pub has_failed : Bool
  pub is_flushed : Bool
