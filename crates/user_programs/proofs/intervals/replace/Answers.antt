use Rattle.user_programs.proofs.intervals.replace.Goals as goal
use Rattle.std.proofs.Common.{◌≡◌, ◌<◌, ◌+◌, ℕ, List, [], ◌∷◌, arith, length, cond, is_some, refl}
use Rattle.std.specs.Prelude.{Option, Some, None, ◌↔◌, ◌⊎◌}
use Rattle.user_programs.specs.Points.{end_of}
use mathlib.Core.Logic.{inl, inr}

not_only : (es : List (ℕ × ℕ)) (low high start end : ℕ) → end_of es low ≡ Some high
    → end_of es start ≡ Some end → low < start → length es ≡ 1 → ⊥
not_only [] low high start end at there less one = cc
not_only (e ∷ []) low high start end at there less one = grind arith
not_only (e ∷ f ∷ es) low high start end at there less one = omega (arith, one)

one_less : (es : List (ℕ × ℕ)) (r : Option ℕ) (n low high start end : ℕ)
    → end_of es low ≡ Some high → end_of es start ≡ Some end → low < start
    → ((r ≡ None) ↔ ((end_of es start ≡ None) ⊎ (length es ≡ 1)))
    → n + cond (is_some r) 1 0 ≡ length es → n < length es
one_less es None n low high start end at there less none is =
    elim (none.0 refl) [
      | inl absent ↦ absurd (cc)
      | inr one ↦ absurd (not_only es low high start end at there less one)
    ]
one_less es (Some v) n low high start end at there less none is = omega (arith, is)

pub loop-start-smaller : goal.loop-start-smaller
loop-start-smaller c =
    one_less c.loop-start.map.entries c.remove.result _ c.args.low c.args.high c.in-Some.start
    c.in-Some.ensures.some.2.0 c.loop-start.invariant.at c.in-Some.ensures.some.2.1
    c.in-Some.ensures.some.0 c.remove.ensures.entries.0 c.remove.ensures.len
