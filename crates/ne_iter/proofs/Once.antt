-- The one item that a source of one item yields.
use Rattle.std.proofs.Common.{ap}
use Rattle.std.specs.Prelude.{◌≡◌, List, [], ◌∷◌, ◌++◌, Some, refl}
use Rattle.std.specs.Iterator.{DrainsIf}
use Rattle.std.specs.Iterator.Adapters.{once_item, once_steps}
use Rattle.std.specs.declared.iter.Once.{Once}

pub DrainsIf-once : {W A : Type 0} (s : Once A) (x : A) (xs : List A) → once_item s ≡ Some x
    → DrainsIf once_steps W s xs → (more : List A) × (x ∷ [] ≡ xs ++ more) × (W → more ≡ [])
DrainsIf-once s x [] e k = (x ∷ [], refl, λ w. cc (e, ap once_item k.1, (k.2 w).1.0))
DrainsIf-once s x (y ∷ []) e (t, (j, st, rest), fin) = ([], (let a = st.0 in cc), λ w. refl)
DrainsIf-once s x (y ∷ z ∷ ys) e (t, (j, st, (i, next, rest)), fin) = cc (next.0, st.1)
