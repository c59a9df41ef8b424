-- What a lookup finds in a set of intervals, whose list is in ascending order of the starts.
use Rattle.std.proofs.Common.{◌≡◌, ◌<◌, ℕ, Bool, true, false, cond, refl, sym, ap₂, ◌∙◌}
use Rattle.std.proofs.Common.{List, [], ◌∷◌, map, arith, Less}
use Rattle.std.specs.BTreeMap.{is_at}
use Rattle.std.specs.List.{AllByRecursion}
use Rattle.std.specs.List.Sorted.{IsStrictlySortedBy}
use Rattle.std.specs.Ordering.{nat_cmp}
use Rattle.std.specs.Prelude.{Option, Some, None, ◌⊎◌}
use Rattle.user_programs.specs.Points.{end_of}
use mathlib.Core.Logic.{inl, inr}

pub less : (m n : ℕ) → nat_cmp m n ≡ Less → m < n
less m n h = grind arith

pub at_itself : (n : ℕ) → is_at (nat_cmp n) n ≡ true
at_itself n = grind arith

pub same : (m n : ℕ) → is_at (nat_cmp m) n ≡ true → m ≡ n
same m n h = grind arith

pub not_at : (m n : ℕ) → n < m → is_at (nat_cmp m) n ≡ false
not_at m n h = grind arith

abbrev pub Follow : ℕ → List ℕ → Type 0
Follow k ks = AllByRecursion (λ y. nat_cmp k y ≡ Less) ks

abbrev pub starts : List (ℕ × ℕ) → List ℕ
starts s = map (λ p. p.0) s

-- The first interval is found at its start.
pub first : (p : ℕ × ℕ) (s : List (ℕ × ℕ)) → end_of (p ∷ s) p.0 ≡ Some p.1
first p s = rw (at_itself p.0) refl

which_at : (b : Bool) (p : ℕ × ℕ) (s : List (ℕ × ℕ)) (start end : ℕ)
    → is_at (nat_cmp start) p.0 ≡ b → cond b (Some p.1) (end_of s start) ≡ Some end
    → ((start ≡ p.0) × (end ≡ p.1)) ⊎ (end_of s start ≡ Some end)
which_at true p s start end test is = inl (same start p.0 test, cc)
which_at false p s start end test is = inr is

pub which : (p : ℕ × ℕ) (s : List (ℕ × ℕ)) (start end : ℕ) → end_of (p ∷ s) start ≡ Some end
    → ((start ≡ p.0) × (end ≡ p.1)) ⊎ (end_of s start ≡ Some end)
which p s start end is = which_at (is_at (nat_cmp start) p.0) p s start end refl is

pub later : (k : ℕ) (s : List (ℕ × ℕ)) (start end : ℕ) → Follow k (starts s)
    → end_of s start ≡ Some end → k < start
later k [] start end follow is = absurd (cc)
later k (p ∷ s) start end follow is =
    elim (which p s start end is) [
      | inl this ↦ omega (arith, this.0, less k p.0 follow.0)
      | inr behind ↦ later k s start end follow.1 behind
    ]

pub behind : (p : ℕ × ℕ) (s : List (ℕ × ℕ)) (start end : ℕ) → Follow p.0 (starts s)
    → end_of s start ≡ Some end → end_of (p ∷ s) start ≡ Some end
behind p s start end follow is = rw (not_at start p.0 (later p.0 s start end follow is)) is

pub agree : (o p : Option ℕ) → ((e : ℕ) → o ≡ Some e → p ≡ Some e)
    → ((e : ℕ) → p ≡ Some e → o ≡ Some e) → o ≡ p
agree None None to from = refl
agree None (Some e) to from = from e refl
agree (Some e) p to from = sym (to e refl)

-- If two lists begin at the same start and agree at each start, their tails agree too.
tail_has : (p q : ℕ × ℕ) (s t : List (ℕ × ℕ)) → p.0 ≡ q.0 → Follow p.0 (starts s)
    → ((k : ℕ) → end_of (p ∷ s) k ≡ end_of (q ∷ t) k) → (k e : ℕ) → end_of s k ≡ Some e
    → end_of t k ≡ Some e
tail_has p q s t same sorted alike k e is =
    elim (which q t k e (sym (alike k) ∙ behind p s k e sorted is)) [
      | inl this ↦ absurd (omega (arith, this.0, same, later p.0 s k e sorted is))
      | inr there ↦ there
    ]

heads : (p q : ℕ × ℕ) (s t : List (ℕ × ℕ)) → Follow p.0 (starts s) → Follow q.0 (starts t)
    → ((k : ℕ) → end_of (p ∷ s) k ≡ end_of (q ∷ t) k) → (p.0 ≡ q.0) × (p.1 ≡ q.1)
heads p q s t sorted also alike =
    elim (which q t p.0 p.1 (sym (alike p.0) ∙ first p s)) [
      | inl this ↦ this
      | inr there ↦ elim (which p s q.0 q.1 (alike q.0 ∙ first q t)) [
        | inl that ↦ (sym that.0, sym that.1)
        | inr here ↦ absurd (omega (
          arith,
          later q.0 t p.0 p.1 also there,
          later p.0 s q.0 q.1 sorted here,
        ))
      ]
    ]

nothing : (p : ℕ × ℕ) (s : List (ℕ × ℕ)) → None ≡ end_of (p ∷ s) p.0 → ⊥
nothing p s none = let there = none ∙ first p s in cc

pub same_lists : (s t : List (ℕ × ℕ)) → IsStrictlySortedBy nat_cmp (starts s)
    → IsStrictlySortedBy nat_cmp (starts t) → ((k : ℕ) → end_of s k ≡ end_of t k) → s ≡ t
unfolding IsStrictlySortedBy
same_lists [] [] sorted also alike = refl
same_lists [] (q ∷ t) sorted also alike = absurd (nothing q t (alike q.0))
same_lists (p ∷ s) [] sorted also alike = absurd (nothing p s (sym (alike p.0)))
same_lists (p ∷ s) (q ∷ t) sorted also alike =
    let head = heads p q s t sorted.0 also.0 alike in
    ap₂ (λ x l. x ∷ l) (ap₂ (λ a b. (a, b)) head.0 head.1)
    (same_lists s t sorted.1 also.1 (λ k. agree (end_of s k) (end_of t k)
    (tail_has p q s t head.0 sorted.0 alike k)
    (tail_has q p t s (sym head.0) also.0 (λ n. sym (alike n)) k)))
