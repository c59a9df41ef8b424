-- What a removed interval and a joined one leave of the points that are covered. The intervals are
-- functions here, from their starts to their ends.
use Rattle.std.proofs.Common.{◌≡◌, ◌<◌, ◌≤◌, ℕ, sym, ◌∙◌, arith}
use Rattle.std.proofs.lemmas.Bool.{cases_eq, cases_lt, cases_order}
use Rattle.std.specs.Prelude.{Option, Some, None, ◌⊎◌, ◌↔◌}
use Rattle.user_programs.specs.Points.{IsWithin}
use mathlib.Core.Logic.{inl, inr}

abbrev pub Covers : (ℕ → Option ℕ) → ℕ → Type 0
Covers f x = (start : ℕ) × (end : ℕ) × (f start ≡ Some end) × IsWithin start end x

abbrev pub HavePoints : (ℕ → Option ℕ) → Type 0
HavePoints f = (s e : ℕ) → f s ≡ Some e → s < e

abbrev pub AreApart : (ℕ → Option ℕ) → Type 0
AreApart f = (s e t d : ℕ) → f s ≡ Some e → f t ≡ Some d → s < t → e < t

pub one_at : (f : ℕ → Option ℕ) → AreApart f → (s e t d x : ℕ) → f s ≡ Some e → f t ≡ Some d
    → IsWithin s e x → IsWithin t d x → s ≡ t
one_at f apart s e t d x is js within also =
    elim (cases_order s t) [
      | inl same ↦ same
      | inr (inl less) ↦ absurd (omega (arith, apart s e t d is js less, within.1, also.0))
      | inr (inr less) ↦ absurd (omega (arith, apart t d s e js is less, also.1, within.0))
    ]

-- f without the interval at k is g.
module _ (f g : ℕ → Option ℕ) (k end : ℕ) (apart : AreApart f) (at : f k ≡ Some end)
    (gone : g k ≡ None) (others : (s : ℕ) → (s ≡ k → ⊥) → g s ≡ f s) where
  other : (s e : ℕ) → g s ≡ Some e → s ≡ k → ⊥
  other s e is same = cc

  left : (x : ℕ) → Covers g x → Covers f x × (IsWithin k end x → ⊥)
  left x (s, e, is, within) =
      let was = sym (others s (other s e is)) ∙ is in (
        (s, e, was, within),
        λ also. other s e is (one_at f apart s e k end x was at within also),
      )

  this_one : (s e x : ℕ) → f s ≡ Some e → IsWithin s e x → s ≡ k → IsWithin k end x
  this_one s e x is within same =
      let ends : e ≡ end = cc in (omega (arith, same, within.0), omega (arith, ends, within.1))

  stays : (x : ℕ) → Covers f x × (IsWithin k end x → ⊥) → Covers g x
  stays x ((s, e, is, within), out) =
      elim (cases_eq s k) [
        | inl same ↦ absurd (out (this_one s e x is within same))
        | inr differ ↦ (s, e, others s differ ∙ is, within)
      ]

  pub points_left : (x : ℕ) → Covers g x ↔ (Covers f x × (IsWithin k end x → ⊥))
  points_left x = (left x, stays x)

-- g has one interval in place of the intervals of f from low up to high.
module _ (f g : ℕ → Option ℕ) (low high : ℕ) (at : g low ≡ Some high)
    (within : (s : ℕ) → low < s → s ≤ high → g s ≡ None)
    (below : (s : ℕ) → s < low → g s ≡ f s) (above : (s : ℕ) → high < s → g s ≡ f s) where
  -- Each interval of g is the new one, or one of f that starts before or after it.
  abbrev Is : ℕ → ℕ → Type 0
  Is s e = ((s ≡ low) × (e ≡ high))
      ⊎ (((s < low) × (f s ≡ Some e)) ⊎ ((high < s) × (f s ≡ Some e)))

  ends : (s e : ℕ) → g s ≡ Some e → s ≡ low → e ≡ high
  ends s e is same = cc

  gone : (s e : ℕ) → g s ≡ Some e → g s ≡ None → ⊥
  gone s e is none = cc

  which : (s e : ℕ) → g s ≡ Some e → Is s e
  which s e is =
      elim (cases_order s low) [
        | inl same ↦ inl (same, ends s e is same)
        | inr (inl less) ↦ inr (inl (less, sym (below s less) ∙ is))
        | inr (inr more) ↦ elim (cases_lt high s) [
          | inl beyond ↦ inr (inr (beyond, sym (above s beyond) ∙ is))
          | inr upto ↦ absurd (gone s e is (within s more upto))
        ]
      ]

  module _ (a b : ℕ) (before : low ≤ a) (after : b ≤ high)
      (first : (x : ℕ) → low ≤ x → x < a → Covers f x)
      (last : (x : ℕ) → b ≤ x → x < high → Covers f x)
      (inside : (s e : ℕ) → f s ≡ Some e → s ≤ high → e ≤ high) where
    added : (x : ℕ) → Covers g x → Covers f x ⊎ IsWithin a b x
    added x (s, e, is, here) =
        elim (which s e is) [
          | inl new ↦ elim (cases_lt x a) [
            | inl less ↦ inl (first x (omega (arith, new.0, here.0)) less)
            | inr from ↦ elim (cases_lt x b) [
              | inl less ↦ inr (from, less)
              | inr past ↦ inl (last x past (omega (arith, new.1, here.1)))
            ]
          ]
          | inr (inl old) ↦ inl (s, e, old.1, here)
          | inr (inr old) ↦ inl (s, e, old.1, here)
        ]

    kept : (x : ℕ) → Covers f x ⊎ IsWithin a b x → Covers g x
    kept x (inl (s, e, is, here)) =
        elim (cases_lt s low) [
          | inl less ↦ (s, e, below s less ∙ is, here)
          | inr from ↦ elim (cases_lt high s) [
            | inl past ↦ (s, e, above s past ∙ is, here)
            | inr upto ↦ (
              low,
              high,
              at,
              (omega (arith, from, here.0), omega (arith, inside s e is upto, here.1)),
            )
          ]
        ]
    kept x (inr here) =
        (low, high, at, (omega (arith, before, here.0), omega (arith, after, here.1)))

    pub points_joined : (x : ℕ) → Covers g x ↔ (Covers f x ⊎ IsWithin a b x)
    points_joined x = (added x, kept x)
