-- A set of intervals is determined by the points that it covers.
use Rattle.std.proofs.Common.{◌≡◌, ◌<◌, ◌-◌, ℕ, List, ◌∙◌, ap, subst, arith}
use Rattle.std.proofs.lemmas.Bool.{cases_order}
use Rattle.std.specs.Prelude.{Option, Some, ◌⊎◌, ◌↔◌}
use Rattle.user_programs.proofs.Joined.{AreApart, Covers, HavePoints}
use Rattle.user_programs.proofs.Lookups.{agree, same_lists}
use Rattle.user_programs.specs.Points.{end_of, IsIntervalSet, IsWithin}
use mathlib.Core.Logic.{inl, inr}

-- If g covers the points of f and no others, g has an interval at the start of each interval of f.
-- The interval of g ends where that of f ends, or later.
module _ (f g : ℕ → Option ℕ) (points : HavePoints f) (apart : AreApart f)
    (its_points : HavePoints g) (its_apart : AreApart g) (to : (x : ℕ) → Covers f x → Covers g x)
    (from : (x : ℕ) → Covers g x → Covers f x) where
  just_before : (s e t d : ℕ) → f s ≡ Some e → g t ≡ Some d → t < s → s < d → ⊥
  just_before s e t d is also less more =
      let (u, v, there, within) =
      from (s - 1) (t, d, also, (omega (arith, less), omega (arith, less, more))) in
      omega (
        arith,
        less,
        within.0,
        within.1,
        apart u v s e there is (omega (arith, less, within.0)),
      )

  starts : (s e : ℕ) → f s ≡ Some e → (d : ℕ) × (g s ≡ Some d)
  starts s e is =
      let found = to s (s, e, is, (omega arith, points s e is)) in
      elim (cases_order found.0 s) [
        | inl same ↦ (found.1, subst (λ n. g n ≡ Some found.1) same found.2)
        | inr (inl less) ↦ absurd (just_before s e found.0 found.1 is found.2 less found.3.1)
        | inr (inr more) ↦ absurd (omega (arith, more, found.3.0))
      ]

  no_sooner : (s e d : ℕ) → f s ≡ Some e → g s ≡ Some d → d < e → ⊥
  no_sooner s e d is also less =
      let found = to d (s, e, is, (omega (arith, its_points s d also), less)) in
      let this = one_end found.0 found.1 found.2 in
      elim (cases_order found.0 s) [
        | inl same ↦ omega (arith, found.3.1, this same)
        | inr (inl before) ↦ omega (
          arith,
          found.3.1,
          its_points s d also,
          its_apart found.0 found.1 s d found.2 also before,
        )
        | inr (inr after) ↦ omega (
          arith,
          found.3.0,
          its_apart s d found.0 found.1 also found.2 after,
        )
      ]
    where
      one_end : (t c : ℕ) → g t ≡ Some c → t ≡ s → c ≡ d
      one_end t c there same = cc

has : (f g : ℕ → Option ℕ) → HavePoints f → AreApart f → HavePoints g → AreApart g
    → ((x : ℕ) → Covers f x → Covers g x) → ((x : ℕ) → Covers g x → Covers f x)
    → (s e : ℕ) → f s ≡ Some e → g s ≡ Some e
has f g points apart its_points its_apart to from s e is =
    let there = starts f g points apart its_points its_apart to from s e is in
    elim (cases_order there.0 e) [
      | inl same ↦ there.1 ∙ ap Some same
      | inr (inl less) ↦ absurd (no_sooner f g points apart its_points its_apart to from
          s e there.0 is there.1 less)
      | inr (inr more) ↦ absurd (no_sooner g f its_points its_apart points apart from to
          s there.0 e there.1 is more)
    ]

-- Two sets that cover the same points are the same set.
pub one_set : (s t : List (ℕ × ℕ)) → IsIntervalSet s → IsIntervalSet t
    → ((x : ℕ) → Covers (end_of s) x ↔ Covers (end_of t) x) → s ≡ t
one_set s t one other same =
    same_lists s t one.rising other.rising (λ q. agree (end_of s q) (end_of t q)
    (has (end_of s) (end_of t) one.some one.apart other.some other.apart (λ x. (same x).0)
    (λ x. (same x).1) q)
    (has (end_of t) (end_of s) other.some other.apart one.some one.apart (λ x. (same x).1)
    (λ x. (same x).0) q))

-- A set that covers the points of old and those from start to before end is the set new.
pub only_set : (start end : ℕ) (old new : List (ℕ × ℕ)) → IsIntervalSet new
    → ((x : ℕ) → Covers (end_of new) x ↔ (Covers (end_of old) x ⊎ IsWithin start end x))
    → (s : List (ℕ × ℕ)) → IsIntervalSet s
    → ((x : ℕ) → Covers (end_of s) x ↔ (Covers (end_of old) x ⊎ IsWithin start end x))
    → new ≡ s
only_set start end old new set points s other also =
    one_set new s set other (λ x. (
      λ h. (also x).1 ((points x).0 h),
      λ h. (points x).1 ((also x).0 h),
    ))
