-- Two maps with their keys in ascending order are equal entry by entry if and only if they are the
-- same map.
use Rattle.std.proofs.Common.{◌≡◌, Bool, true, false, cond, ◌&&◌, List, [], ◌∷◌, refl, sym, ap, ap₂}
use Rattle.std.proofs.Common.{◌∙◌, true≢false, ◌↔◌, IsTrue, Option, None, Some}
use Rattle.std.specs.Cmp.{IsTotalOrder, tied_itself}
use Rattle.std.specs.Cmp.Lexicographic.{pointwise}
use Rattle.std.specs.List.{AllByRecursion}
use Rattle.std.specs.List.Sorted.{IsStrictlySortedBy}
use Rattle.std.specs.Map.{keys_of, lookup}
use Rattle.std.specs.BTreeMap.{is_at}
use Rattle.std.specs.Option.{option_eq}
use Rattle.std.specs.Ordering.{is_eq, ordering_reverse, eq_by_cmp}
use Rattle.std.specs.declared.cmp.Ordering.{Ordering}
use Rattle.std.specs.declared.cmp.Ordering.TheVariants.{Less, Equal, Greater}
use Rattle.std.proofs.lemmas.Map.Keys.{sorted_head, sorted_tail}

module _ {K V : Type 0} {eq : K → K → Bool} {cmp : K → K → Ordering}
    (veq : V → V → Bool) (o : IsTotalOrder cmp)
    (same : (a b : K) → eq a b ≡ eq_by_cmp cmp a b) where
  abbrev at : List (K × V) → K → Option V
  at es q = lookup (is_at (cmp q)) es

  abbrev pair_eq : K × V → K × V → Bool
  pair_eq p q = eq p.0 q.0 && veq p.1 q.1

  -- A key that is less than each key of the entries is none of them.
  not_later : (q : K) (es : List (K × V)) → AllByRecursion (λ y. cmp q y ≡ Less) (keys_of es)
      → at es q ≡ None
  not_later q [] h = refl
  not_later q (e ∷ es) h = rw h.0 (not_later q es h.1)

  below : (q x : K) (ks : List K) → ((y : K) → cmp x y ≡ Less → cmp q y ≡ Less)
      → AllByRecursion (λ y. cmp x y ≡ Less) ks → AllByRecursion (λ y. cmp q y ≡ Less) ks
  below q x [] up h = tt
  below q x (y ∷ ys) up h = (up y h.0, below q x ys up h.1)

  lacks : (q : K) (e : K × V) (es : List (K × V)) → IsStrictlySortedBy cmp (keys_of (e ∷ es))
      → cmp q e.0 ≡ Less → at (e ∷ es) q ≡ None
  lacks q e es s l =
      rw l (not_later q es (below q e.0 (keys_of es) (λ y h.
      o.trans q e.0 y l h) (sorted_head cmp e.0 (keys_of es) s)))

  gone : (q : K) (e : K × V) (es : List (K × V)) → IsStrictlySortedBy cmp (keys_of (e ∷ es))
      → cmp q e.0 ≡ Equal → at es q ≡ None
  gone q e es s l = not_later q es (below q e.0 (keys_of es) (λ y h. o.congr q e.0 y l
      ∙ h) (sorted_head cmp e.0 (keys_of es) s))

  first : (q : K) (e : K × V) (es : List (K × V)) → cmp q e.0 ≡ Equal → at (e ∷ es) q ≡ Some e.1
  first q e es l = rw l refl

  -- Equal items compare alike with any other item.
  alike : (q x y : K) → cmp x y ≡ Equal → cmp q x ≡ cmp q y
  alike q x y e = o.antisymm q x ∙ ap ordering_reverse (o.congr x y q e) ∙ sym (o.antisymm q y)

  turned : (x y : K) → cmp x y ≡ Greater → cmp y x ≡ Less
  turned x y p = o.antisymm y x ∙ ap ordering_reverse p

  tails : (x y : K × V) (xs ys : List (K × V)) → IsStrictlySortedBy cmp (keys_of (x ∷ xs))
      → IsStrictlySortedBy cmp (keys_of (y ∷ ys)) → cmp x.0 y.0 ≡ Equal
      → ((q : K) → option_eq veq (at (x ∷ xs) q) (at (y ∷ ys) q) ≡ true) → (q : K)
      → option_eq veq (at xs q) (at ys q) ≡ true
  tails x y xs ys s t e h q = by (cmp q x.0) refl
    where
      to_y : cmp q x.0 ≡ cmp q y.0
      to_y = alike q x.0 y.0 e

      rest : (r : Ordering) → is_eq r ≡ false → cmp q x.0 ≡ r → option_eq veq (at xs q) (at ys q)
          ≡ true
      rest r f p =
          ap₂ (λ b c.
          option_eq veq (cond b (Some x.1) (at xs q)) (cond c (Some y.1) (at ys q))) (sym f
          ∙ ap is_eq (sym p)) (sym f ∙ ap is_eq (sym p ∙ to_y)) ∙ h q

      by : (r : Ordering) → cmp q x.0 ≡ r → option_eq veq (at xs q) (at ys q) ≡ true
      by Equal p = ap₂ (option_eq veq) (gone q x xs s p) (gone q y ys t (sym to_y ∙ p))
      by Less p = rest Less refl p
      by Greater p = rest Greater refl p

  pub equal_from_same : (xs ys : List (K × V)) → IsStrictlySortedBy cmp (keys_of xs)
      → IsStrictlySortedBy cmp (keys_of ys) → ((q : K) → option_eq veq (at xs q) (at ys q) ≡ true)
      → pointwise pair_eq xs ys ≡ true
  equal_from_same [] [] s t h = refl
  equal_from_same [] (y ∷ ys) s t h =
      absurd (true≢false (sym (h y.0)
      ∙ ap (option_eq veq None) (first y.0 y ys (tied_itself o y.0))))
  equal_from_same (x ∷ xs) [] s t h =
      absurd (true≢false (sym (h x.0)
      ∙ ap (λ r. option_eq veq r None) (first x.0 x xs (tied_itself o x.0))))
  equal_from_same (x ∷ xs) (y ∷ ys) s t h =
      by (cmp x.0 y.0) refl (λ e.
      equal_from_same xs ys (sorted_tail cmp x.0 (keys_of xs) s)
      (sorted_tail cmp y.0 (keys_of ys) t) (tails x y xs ys s t e h))
    where
      by : (r : Ordering) → cmp x.0 y.0 ≡ r → (cmp x.0 y.0 ≡ Equal → pointwise pair_eq xs ys ≡ true)
          → (pair_eq x y && pointwise pair_eq xs ys) ≡ true
      by Less p rest =
          absurd (true≢false (sym (h x.0)
          ∙ ap₂ (option_eq veq) (first x.0 x xs (tied_itself o x.0)) (lacks x.0 y ys t p)))
      by Greater p rest =
          absurd (true≢false (sym (h y.0)
          ∙ ap₂ (option_eq veq) (lacks y.0 x xs s (turned x.0 y.0 p))
          (first y.0 y ys (tied_itself o y.0))))
      by Equal p rest = ap₂ (λ b c. (b && c) && pointwise pair_eq xs ys) (same x.0 y.0
          ∙ ap is_eq p)
          (ap₂ (option_eq veq) (sym (first x.0 x xs (tied_itself o x.0))) (sym (first x.0 y ys p))
          ∙ h x.0) ∙ rest p

  is_equal : (r : Ordering) → is_eq r ≡ true → r ≡ Equal
  is_equal Equal f = refl
  is_equal Less f = absurd (true≢false (sym f))
  is_equal Greater f = absurd (true≢false (sym f))

  pub same_from_equal : (xs ys : List (K × V)) → pointwise pair_eq xs ys ≡ true → (q : K)
      → option_eq veq (at xs q) (at ys q) ≡ true
  same_from_equal [] [] h q = refl
  same_from_equal [] (y ∷ ys) h q = absurd (true≢false (sym h))
  same_from_equal (x ∷ xs) [] h q = absurd (true≢false (sym h))
  same_from_equal (x ∷ xs) (y ∷ ys) h q =
      by (eq x.0 y.0) (veq x.1 y.1) refl refl h (λ r. same_from_equal xs ys r q)
    where
      at_q : (b : Bool) → veq x.1 y.1 ≡ true → option_eq veq (at xs q) (at ys q) ≡ true
          → option_eq veq (cond b (Some x.1) (at xs q)) (cond b (Some y.1) (at ys q)) ≡ true
      at_q true v r = v
      at_q false v r = r

      by : (b c : Bool) → eq x.0 y.0 ≡ b → veq x.1 y.1 ≡ c → ((b && c) && pointwise pair_eq xs ys)
          ≡ true → (pointwise pair_eq xs ys ≡ true → option_eq veq (at xs q) (at ys q) ≡ true)
          → option_eq veq (at (x ∷ xs) q) (at (y ∷ ys) q) ≡ true
      by false c e v p rest = absurd (true≢false (sym p))
      by true false e v p rest = absurd (true≢false (sym p))
      by true true e v p rest =
          ap (λ r.
          option_eq veq (cond (is_eq r) (Some x.1) (at xs q))
          (cond (is_eq (cmp q y.0)) (Some y.1) (at ys q)))
          (alike q x.0 y.0 (is_equal (cmp x.0 y.0) (sym (same x.0 y.0) ∙ e)))
          ∙ at_q (is_eq (cmp q y.0)) v (rest p)

  pub equal_iff_same : (xs ys : List (K × V)) → IsStrictlySortedBy cmp (keys_of xs)
      → IsStrictlySortedBy cmp (keys_of ys) → (r : Bool) → r ≡ pointwise pair_eq xs ys
      → IsTrue r ↔ ((q : K) → option_eq veq (at xs q) (at ys q) ≡ true)
  equal_iff_same xs ys s t r e = (
    λ p. same_from_equal xs ys (sym e ∙ p),
    λ h. e
        ∙ equal_from_same xs ys s t h,
  )
