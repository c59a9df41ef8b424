-- The items of a list with separators, by their indices.
use Rattle.std.proofs.Common.{rules, arith, subst, ap}
use Rattle.std.specs.Prelude.{◌≡◌, ℕ, zero, suc, ◌+◌, ◌-◌, ◌*◌, List, [], ◌∷◌, length, slice_get}
use Rattle.std.specs.Prelude.{Some, IsSomeAnd, refl, true, Result, Ok, Err, is_ok}
use Rattle.std.specs.List.{list_all}
use Rattle.std.proofs.lemmas.Option.{none-some}
use Rattle.ne_iter.specs.Intersperse.{Interspersed}

two_more : (i : ℕ) → 2 * suc i ≡ suc (suc (2 * i))
two_more i = omega arith

three_more : (i : ℕ) → 2 * suc i + 1 ≡ suc (suc (2 * i + 1))
three_more i = omega arith

one_more : (i : ℕ) → 2 * i + 1 ≡ suc (2 * i)
one_more i = omega arith

module _ {X : Type 0} where
  at_place : {xs ys : List X} {i k : ℕ} {z : X} → xs ≡ ys → i ≡ k → slice_get xs i ≡ Some z
      → slice_get ys k ≡ Some z
  at_place e p h = cc

  nothing_there : (i : ℕ) (z : X) → slice_get [] i ≡ Some z → ⊥
  nothing_there i z e = none-some z e

module _ {A E : Type 0} (came : Result A E → Type 0) where
  ok_behind : (x c : A) (zs more : List (Result A E)) → zs ≡ Ok x ∷ Ok c ∷ more
      → list_all is_ok zs ≡ true → list_all is_ok more ≡ true
  ok_behind x c zs more e ok = subst (λ l. list_all is_ok l ≡ true) e ok

  err_behind : (x : A) (e : E) (zs more : List (Result A E)) → zs ≡ Ok x ∷ Err e ∷ more
      → list_all is_ok zs ≡ true → ⊥
  err_behind x e zs more same ok = let f = subst (λ l. list_all is_ok l ≡ true) same ok in
      search rules

  pub count_of : (xs : List A) (zs : List (Result A E)) → Interspersed came xs zs
      → list_all is_ok zs ≡ true → length zs ≡ 2 * length xs - 1
  count_of [] zs h ok = ap length h
  count_of (x ∷ []) zs h ok = ap length h
  count_of (x ∷ y ∷ xs) zs (Ok c, more, came_of, same, rest) ok =
      let ih = count_of (y ∷ xs) more rest (ok_behind x c zs more same ok) in
      omega (arith, ap length same, ih)
  count_of (x ∷ y ∷ xs) zs (Err e, more, came_of, same, rest) ok = absurd
      (err_behind x e zs more same ok)

  pub items_at : (xs : List A) (zs : List (Result A E)) → Interspersed came xs zs
      → (i : ℕ) (z : Result A E) → slice_get zs (2 * i) ≡ Some z
      → IsSomeAnd (slice_get xs i) (λ x. z ≡ Ok x)
  items_at [] zs h i z e = absurd (nothing_there (2 * i) z (at_place h refl e))
  items_at (x ∷ []) zs h zero z e = let f = at_place h refl e in search rules
  items_at (x ∷ []) zs h (suc i) z e = absurd
      (nothing_there (suc (2 * i)) z (at_place h (two_more i) e))
  items_at (x ∷ y ∷ xs) zs (c, more, came_of, same, rest) zero z e = let f = at_place same refl e in
      search rules
  items_at (x ∷ y ∷ xs) zs (Ok c, more, came_of, same, rest) (suc i) z e = items_at (y ∷ xs) more
      rest i z (at_place same (two_more i) e)
  items_at (x ∷ y ∷ xs) zs (Err r, more, came_of, same, rest) (suc i) z e = absurd
      (nothing_there (2 * i) z (at_place rest refl (at_place same (two_more i) e)))

  pub separators_at : (xs : List A) (zs : List (Result A E)) → Interspersed came xs zs
      → (i : ℕ) (z : Result A E) → slice_get zs (2 * i + 1) ≡ Some z → came z
  separators_at [] zs h i z e = absurd (nothing_there (2 * i + 1) z (at_place h refl e))
  separators_at (x ∷ []) zs h i z e = absurd (nothing_there (2 * i) z (at_place h (one_more i) e))
  separators_at (x ∷ y ∷ xs) zs (c, more, came_of, same, rest) zero z e =
      let f : Some c ≡ Some z = at_place same refl e in
      let g : c ≡ z = search rules in
      subst came g came_of
  separators_at (x ∷ y ∷ xs) zs (Ok c, more, came_of, same, rest) (suc i) z e = separators_at
      (y ∷ xs) more rest i z (at_place same (three_more i) e)
  separators_at (x ∷ y ∷ xs) zs (Err r, more, came_of, same, rest) (suc i) z e = absurd
      (nothing_there (2 * i + 1) z (at_place rest refl (at_place same (three_more i) e)))

  pub err_is_last : (xs : List A) (zs : List (Result A E)) → Interspersed came xs zs
      → (i : ℕ) (r : E) → slice_get zs i ≡ Some (Err r) → length zs ≡ i + 1
  err_is_last [] zs h i r e = absurd (nothing_there i (Err r) (at_place h refl e))
  err_is_last (x ∷ []) zs h zero r e = let f : Some (Ok x) ≡ Some (Err r) = at_place h refl e in
      search rules
  err_is_last (x ∷ []) zs h (suc i) r e = absurd (nothing_there i (Err r) (at_place h refl e))
  err_is_last (x ∷ y ∷ xs) zs (c, more, came_of, same, rest) zero r e = let f : Some (Ok x)
      ≡ Some (Err r) = at_place same refl e in search rules
  err_is_last (x ∷ y ∷ xs) zs (Ok c, more, came_of, same, rest) (suc zero) r e = let f : Some (Ok c)
      ≡ Some (Err r) = at_place same refl e in search rules
  err_is_last (x ∷ y ∷ xs) zs (Err q, more, came_of, same, rest) (suc zero) r e = omega
      (arith, ap length same, ap length rest)
  err_is_last (x ∷ y ∷ xs) zs (Ok c, more, came_of, same, rest) (suc (suc i)) r e =
      let ih = err_is_last (y ∷ xs) more rest i r (at_place same refl e) in
      omega (arith, ap length same, ih)
  err_is_last (x ∷ y ∷ xs) zs (Err q, more, came_of, same, rest) (suc (suc i)) r e = absurd
      (nothing_there i (Err r) (at_place rest refl (at_place same refl e)))
