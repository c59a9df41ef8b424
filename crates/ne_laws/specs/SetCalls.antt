-- For `run_set`: the reply to a call on a set, and the set that the call leaves.
use Rattle.ne_laws.specs.declared.set_calls.SetReply.TheVariants as reply
use Rattle.std.specs.Prelude.{◌≡◌, Bool, List, length, is_some, not}
use Rattle.std.specs.Int.NonZero.{non_zero_usize_get}
use Rattle.std.specs.List.{find}
use Rattle.std.specs.declared.num.NonZeroUsize.{NonZeroUsize}
use Rattle.ne_laws.specs.Sets.{Adds, Discards, Puts}
use Rattle.ne_laws.specs.declared.set_calls.SetCall.{SetCall}
use Rattle.ne_laws.specs.declared.set_calls.SetCall.TheVariants.{Insert, Remove, Replace, Has, Len}
use Rattle.ne_laws.specs.declared.set_calls.SetReply.{SetReply}

module _ {T : Type 0} (eq : T → T → Bool) where
  -- The call on the set xs has this reply, and leaves the set ys.
  abbrev pub SetReplies : List T → SetCall T → SetReply T → List T → Type 0
  SetReplies xs (Insert x) r ys = (r ≡ reply.Added (not (is_some (find (eq x) xs))))
      × Adds eq xs x ys
  SetReplies xs (Remove x) r ys = (removed : Bool) × (r ≡ reply.Removed removed)
      × Discards eq xs x removed ys
  SetReplies xs (Replace x) r ys = (r ≡ reply.Old (find (eq x) xs)) × Puts eq xs x ys
  SetReplies xs (Has x) r ys = (r ≡ reply.Has (is_some (find (eq x) xs))) × (ys ≡ xs)
  SetReplies xs Len r ys = (n : NonZeroUsize) × (r ≡ reply.Len n)
      × (non_zero_usize_get n ≡ length xs) × (ys ≡ xs)
