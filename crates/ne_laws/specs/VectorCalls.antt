-- For `run_vec`: the reply to a call on a vector, and the vector that the call leaves.
use Rattle.ne_laws.specs.declared.vector_calls.VecReply.TheVariants as reply
use Rattle.std.specs.Prelude.{◌≡◌, ◌<◌, ◌≤◌, ◌⊎◌, ℕ, List, [], ◌∷◌, ◌++◌, length, take, drop, swap}
use Rattle.std.specs.Prelude.{reverse, insert, remove, swap_remove, slice_get, None, Some}
use Rattle.std.specs.Global.{Vec}
use Rattle.std.specs.Int.NonZero.{non_zero_usize_get}
use Rattle.std.specs.declared.num.NonZeroUsize.{NonZeroUsize}
use Rattle.ne_laws.specs.declared.vector_calls.VecCall.{VecCall}
use Rattle.ne_laws.specs.declared.vector_calls.VecCall.TheVariants.{Push, Pop, Remove, SwapRemove}
use Rattle.ne_laws.specs.declared.vector_calls.VecCall.TheVariants.{Insert, Swap, Truncate}
use Rattle.ne_laws.specs.declared.vector_calls.VecCall.TheVariants.{SplitOff, Append, Reverse, Len}
use Rattle.ne_laws.specs.declared.vector_calls.VecReply.{VecReply}

module _ {T : Type 0} where
  -- v has an item.
  abbrev pub HasItem : List T → Type 0
  HasItem v = 0 < length v

  -- An item for which `taken` holds is taken from v, unless v has one item: then w is v.
  abbrev pub TakesItem : List T → VecReply T → List T → (T → Type 0) → Type 0
  TakesItem v r w taken = (length v ≡ 1 → (r ≡ reply.Taken None) × (w ≡ v))
      × (1 < length v → (x : T) × (r ≡ reply.Taken (Some x)) × taken x)

  -- `TakesItem` of the item at index i; the call is refused if v has several items but none there.
  abbrev pub TakesItemAt : List T → ℕ → VecReply T → List T → (T → Type 0) → Type 0
  TakesItemAt v i r w taken = (length v ≡ 1 → (r ≡ reply.Taken None) × (w ≡ v))
      × (1 < length v → i < length v
      → (x : T) × (r ≡ reply.Taken (Some x)) × (slice_get v i ≡ Some x) × taken x)
      × (1 < length v → length v ≤ i → (r ≡ reply.Refused) × (w ≡ v))

  -- The call on the list v has this reply, and leaves the list w.
  abbrev pub VectorReplies : List T → VecCall T → VecReply T → List T → Type 0
  VectorReplies v (Push x) r w = (r ≡ reply.Done) × (w ≡ v ++ x ∷ [])
  VectorReplies v Pop r w = TakesItem v r w (λ x. v ≡ w ++ x ∷ [])
  VectorReplies v (Remove i) r w = TakesItemAt v i r w (λ _. w ≡ remove v i)
  VectorReplies v (SwapRemove i) r w = TakesItemAt v i r w (λ x. w ≡ swap_remove v i x)
  VectorReplies v (Insert i x) r w = (i ≤ length v → (r ≡ reply.Done) × (w ≡ insert v i x))
      × (length v < i → (r ≡ reply.Refused) × (w ≡ v))
  VectorReplies v (Swap i j) r w =
      (i < length v → j < length v → (r ≡ reply.Done) × (w ≡ swap v i j))
      × ((length v ≤ i) ⊎ (length v ≤ j) → (r ≡ reply.Refused) × (w ≡ v))
  VectorReplies v (Append xs) r w = (r ≡ reply.Done) × (w ≡ v ++ xs.items)
  VectorReplies v (Truncate n) r w = (r ≡ reply.Done) × (w ≡ take (non_zero_usize_get n) v)
  VectorReplies v (SplitOff n) r w =
      (non_zero_usize_get n ≤ length v → (rest : Vec T) × (r ≡ reply.Split rest)
      × (rest.items ≡ drop (non_zero_usize_get n) v) × (w ≡ take (non_zero_usize_get n) v))
      × (length v < non_zero_usize_get n → (r ≡ reply.Refused) × (w ≡ v))
  VectorReplies v Reverse r w = (r ≡ reply.Done) × (w ≡ reverse v)
  VectorReplies v Len r w = (n : NonZeroUsize) × (r ≡ reply.Len n)
      × (non_zero_usize_get n ≡ length v) × (w ≡ v)
