use Rattle.user_programs.proofs.intervals.at_or_before.Goals as goal
use Rattle.std.proofs.Common.{◌≡◌, ◌<◌, ◌≤◌, ℕ, arith, refl, false}
use Rattle.std.specs.Option.{IsSome}
use Rattle.std.specs.Ordering.{is_gt, is_lt, nat_cmp}
use Rattle.std.specs.Prelude.{Option, Some, None}

none_if : (o : Option ℕ) → (IsSome o → ⊥) → o ≡ None
none_if None h = refl
none_if (Some n) h = absurd (h refl)

at_most : (m n : ℕ) → is_gt (nat_cmp m n) ≡ false → m ≤ n
at_most m n h = grind arith

not_greater : (m n : ℕ) → m ≤ n → is_gt (nat_cmp m n) ≡ false
not_greater m n h = grind arith

not_both : (m n : ℕ) → m < n → is_lt (nat_cmp m n) ≡ false → ⊥
not_both m n less h = grind arith

pub returns-in-Some : goal.returns-in-Some
returns-in-Some c =
    let part = c.range.ensures.in_range tt in
    let last : ℕ × ℕ = (c.in-Some.start.now, c.in-Some.end.now) in
    let here = part.3 last c.next_back.new.self c.in-Some.ensures.steps in (
      here.1,
      at_most _ _ here.0.1,
      λ start less upto. none_if _ (λ some. not_both _ _ less
          (part.4 last c.next_back.new.self c.in-Some.ensures.steps start
          (tt, not_greater _ _ upto) some)),
    )
