-- The key or item that a lookup finds passes its test.
use Rattle.std.proofs.Common.{◌≡◌, Bool, true, false, cond, List, [], ◌∷◌, Option, None, Some, refl}
use Rattle.std.proofs.Common.{sym}
use Rattle.std.specs.Prelude.{IfSome}
use Rattle.std.specs.Bool.{IsTrue}
use Rattle.std.specs.List.{find}
use Rattle.std.specs.Map.{lookup_key}
use Rattle.std.specs.Option.{option_map}
use Rattle.std.proofs.lemmas.Map.Made.{lookup_key_passes}

module _ {K : Type 0} (test : K → Bool) where
  pub key-passes : {V : Type 0} (es : List (K × V)) (r : Option (K × V))
      → option_map (λ p. p.0) r ≡ lookup_key test es → IfSome r (λ p. IsTrue (test p.0))
  key-passes es None is = tt
  key-passes es (Some p) is = lookup_key_passes test es p.0 (sym is)

  pub find-passes : (xs : List K) (x : K) → find test xs ≡ Some x → test x ≡ true
  find-passes [] x is = cc
  find-passes (y ∷ ys) x is = by (test y) refl (find-passes ys x) is
    where
      by : (b : Bool) → test y ≡ b → (find test ys ≡ Some x → test x ≡ true)
          → cond b (Some y) (find test ys) ≡ Some x → test x ≡ true
      by true passes rest is = cc
      by false passes rest is = rest is

  pub item-passes : (xs : List K) (r : Option K) → r ≡ find test xs
      → IfSome r (λ x. IsTrue (test x))
  item-passes xs None is = tt
  item-passes xs (Some x) is = find-passes xs x (sym is)
