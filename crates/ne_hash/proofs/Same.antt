-- What `==` of hashed maps and sets returns.
use Rattle.std.proofs.Common.{◌≡◌, Bool, sym, ◌∙◌, IsTrue, ◌↔◌}
use Rattle.std.specs.Cmp.{IsEquivalence}
use Rattle.std.specs.HashMap.{HashMap, get, hash_map_eq}
use Rattle.std.specs.HashMap.Eq.{get_from_hash_map_eq, hash_map_eq_from_get}
use Rattle.std.specs.HashSet.{HashSet, hash_set_eq, IsSameSet}
use Rattle.std.specs.HashSet.Eq.{hash_set_eq_decides}
use Rattle.ne_iter.specs.Keyed.SameMap.{IsSameMap}

pub maps_equal_iff_same : {K V S : Type 0} {eq : K → K → Bool} (laws : IsEquivalence eq)
    (of_values : V → V → Bool) (m n : HashMap K V S) (r : Bool) → r ≡ hash_map_eq eq of_values m n
    → IsTrue r ↔ IsSameMap of_values (get eq m) (get eq n)
maps_equal_iff_same {eq = eq} laws of_values m n r is = (
  λ h. get_from_hash_map_eq eq of_values laws m n (sym is ∙ h),
  λ h. is ∙ hash_map_eq_from_get eq of_values m n h,
)

pub sets_equal_iff_same : {T S : Type 0} {eq : T → T → Bool} (laws : IsEquivalence eq)
    (s t : HashSet T S) (r : Bool) → r ≡ hash_set_eq eq s t → IsTrue r ↔ IsSameSet eq s t
sets_equal_iff_same laws s t r is =
    let d = hash_set_eq_decides laws s t in ((λ h. d.0 (sym is ∙ h)), (λ h. is ∙ d.1 h))
