-- The parts of a user's own sources, and the list that a countdown yields.
use Rattle.std.specs.Prelude.{◌≡◌, ℕ, zero, suc, ◌<◌, List, [], ◌∷◌, length}
use Rattle.std.specs.Borrow.{Bor}
use Rattle.std.specs.Int.NonZero.{non_zero_u32_get}
use Rattle.std.specs.Box.{box_value}
use Rattle.user_generic.specs.declared.own_sources.Countdown.{Countdown}
use Rattle.user_generic.specs.declared.own_sources.CountdownIter.{CountdownIter}
use Rattle.user_generic.specs.declared.own_sources.Start.{Start}
use Rattle.user_generic.specs.declared.own_sources.Boxed.{Boxed}

-- The numbers from n down to 1.
abbrev pub counted_down : ℕ → List ℕ
counted_down zero = []
counted_down (suc n) = suc n ∷ counted_down n

-- The number that a countdown starts at.
abbrev pub start_of : Countdown → ℕ
start_of c = non_zero_u32_get c.from

-- The number that a countdown yields next, or 0 at its end.
abbrev pub left_of : CountdownIter → ℕ
left_of it = it.left

-- The number of seconds of a `Start`.
abbrev pub seconds_of : Start → ℕ
seconds_of s = non_zero_u32_get s.seconds

-- The source in the box.
abbrev pub in_box : {I : Type 0} → Boxed I → I
in_box b = box_value b.inner

-- A reference to a stack becomes the iterator that has all items of the stack left.
abbrev pub IteratesStack : {A : Type 0} → Bor (List A) → List A → Type 0
IteratesStack s it = (0 < length s.now) × (it ≡ s.now)
