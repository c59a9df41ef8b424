-- Entries made from the same pairs are the same: they have the same keys and the same values.
use Rattle.std.proofs.Common.{◌≡◌, ◌∙◌, Bool, true, false, cond, List, [], ◌∷◌, length, refl, sym}
use Rattle.std.proofs.Common.{ap, ap₂, subst, arith, None, Some}
use Rattle.std.proofs.lemmas.Map.Keys.{IsDistinct-head, IsDistinct-tail}
use Rattle.std.specs.Cmp.{IsEquivalence}
use Rattle.std.specs.List.{AllByRecursion, IsDistinct}
use Rattle.std.specs.Map.{keys_of, lookup}
use Rattle.ne_iter.specs.Keyed.KeyList.{IsKeyListMapOf}

module _ {K V : Type 0} {eq : K → K → Bool} (laws : IsEquivalence eq) where
  -- A key that no entry has is not found.
  apart : (k q : K) (es : List (K × V)) → eq q k ≡ true
      → AllByRecursion (λ y. eq k y ≡ false) (keys_of es) → lookup (eq q) es ≡ None
  apart k q [] same h = refl
  apart k q (e ∷ es) same h =
      let other : eq q e.0 ≡ false = laws.congr q k e.0 same ∙ h.0 in
      ap (λ b. cond b (Some e.1) (lookup (eq q) es)) other ∙ apart k q es same h.1

  first_value : (e : K × V) (es : List (K × V)) → lookup (eq e.0) (e ∷ es) ≡ Some e.1
  first_value e es = ap (λ b. cond b (Some e.1) (lookup (eq e.0) es)) (laws.refl e.0)

  same_value : (v w : V) → Some v ≡ Some w → v ≡ w
  same_value v w h = let h = h in cc

  pub same_entries : (es fs : List (K × V)) → keys_of fs ≡ keys_of es → IsDistinct eq (keys_of es)
      → ((q : K) → lookup (eq q) fs ≡ lookup (eq q) es) → fs ≡ es
  same_entries [] [] keys d values = refl
  same_entries [] (f ∷ fs) keys d values = absurd (let n = ap length keys in omega (arith, n))
  same_entries (e ∷ es) [] keys d values = absurd (let n = ap length keys in omega (arith, n))
  same_entries (e ∷ es) (f ∷ fs) keys d values =
      let first : f.0 ≡ e.0 = let keys = keys in cc in
      let later : keys_of fs ≡ keys_of es = let keys = keys in cc in
      let value : f.1 ≡ e.1 = same_value f.1 e.1 (sym (first_value f fs) ∙ values f.0
      ∙ ap (λ k. lookup (eq k) (e ∷ es)) first ∙ first_value e es) in
      ap₂ (λ p l. p ∷ l) (ap₂ (λ k v. (k, v)) first value)
      (same_entries es fs later (IsDistinct-tail eq e.0 (keys_of es) d)
      (λ q. by q (eq q e.0) refl first later))
    where
      by : (q : K) (b : Bool) → eq q e.0 ≡ b → f.0 ≡ e.0 → keys_of fs ≡ keys_of es
          → lookup (eq q) fs ≡ lookup (eq q) es
      by q true same first later =
          let alone = IsDistinct-head eq e.0 (keys_of es) d in
          apart e.0 q fs same (subst (AllByRecursion (λ y. eq e.0 y ≡ false)) (sym later) alone)
          ∙ sym (apart e.0 q es same alone)
      by q false other first later =
          let other_f : eq q f.0 ≡ false = ap (eq q) first ∙ other in
          sym (ap (λ b. cond b (Some f.1) (lookup (eq q) fs)) other_f) ∙ values q
          ∙ ap (λ b. cond b (Some e.1) (lookup (eq q) es)) other

  -- Two lists of entries that the same pairs make are the same.
  pub one_key_list_map : (pairs es fs : List (K × V)) → IsKeyListMapOf eq pairs es
      → IsKeyListMapOf eq pairs fs → fs ≡ es
  one_key_list_map pairs es fs a b = same_entries es fs (b.0 ∙ sym a.0) a.1.0
      (λ q. b.1.1 q ∙ sym (a.1.1 q))
