-- For `run_map`: the reply to a call on a map, and the map that the call leaves.
use Rattle.ne_laws.specs.declared.map_calls.MapReply.TheVariants as reply
use Rattle.std.specs.Prelude.{◌≡◌, Bool, List, length, Option, is_some}
use Rattle.std.specs.Int.NonZero.{non_zero_usize_get}
use Rattle.std.specs.Map.{lookup}
use Rattle.std.specs.declared.num.NonZeroUsize.{NonZeroUsize}
use Rattle.ne_laws.specs.Maps.{Puts, Takes, Writes}
use Rattle.ne_laws.specs.declared.map_calls.MapCall.{MapCall}
use Rattle.ne_laws.specs.declared.map_calls.MapCall.TheVariants.{Insert, Write, Remove, Has, Len}
use Rattle.ne_laws.specs.declared.map_calls.MapReply.{MapReply}

module _ {K V : Type 0} (eq : K → K → Bool) where
  -- The call on the map es has this reply, and leaves the map fs.
  abbrev pub MapReplies : List (K × V) → MapCall K V → MapReply V → List (K × V) → Type 0
  MapReplies es (Insert k v) r fs = (r ≡ reply.Old (lookup (eq k) es)) × Puts eq es k v fs
  MapReplies es (Write k v) r fs = (r ≡ reply.Old (lookup (eq k) es)) × Writes eq es k v fs
  MapReplies es (Remove k) r fs = (old : Option V) × (r ≡ reply.Old old) × Takes eq es k old fs
  MapReplies es (Has k) r fs = (r ≡ reply.Has (is_some (lookup (eq k) es))) × (fs ≡ es)
  MapReplies es Len r fs = (n : NonZeroUsize) × (r ≡ reply.Len n)
      × (non_zero_usize_get n ≡ length es) × (fs ≡ es)
