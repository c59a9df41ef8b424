-- A tree map or set, read by the equality of its keys, which holds if and only if `cmp` is `Equal`.
use Rattle.std.proofs.Common.{◌≡◌, ◌<◌, Bool, subst, sym}
use Rattle.std.specs.BTreeMap.{BTreeMap, IsOrdered, btree_map_len, keys}
use Rattle.std.specs.Ordering.{eq_by_cmp}
use Rattle.std.specs.declared.cmp.Ordering.{Ordering}
use Rattle.std.proofs.lemmas.Map.Keys.{IsDistinct-from_sorted}
use Rattle.std.specs.BTreeSet as sorted
use Rattle.std.specs.BTreeSet.{BTreeSet, btree_set_len}
use Rattle.ne_laws.specs.Maps.{IsNonEmptyMap}
use Rattle.ne_laws.specs.Sets.{IsNonEmptySet}
use mathlib.Core.Path.{fun_ext}

module _ {K : Type 0} (eq : K → K → Bool) (cmp : K → K → Ordering)
    (same : (x y : K) → eq x y ≡ eq_by_cmp cmp x y) where
  -- What holds for the comparison holds for the equality.
  pub by_eq : (P : (K → K → Bool) → Type 0) → P (eq_by_cmp cmp) → P eq
  by_eq P p = subst P (sym (fun_ext (λ x. fun_ext (λ y. same x y)))) p

  pub is_map : {V : Type 0} (m : BTreeMap K V) → IsOrdered cmp m → 0 < btree_map_len m
      → IsNonEmptyMap eq m.entries
  is_map m ordered some =
      by_eq (λ e. IsNonEmptyMap e m.entries) (IsDistinct-from_sorted cmp (keys m) ordered, some)

  pub is_set : (s : BTreeSet K) → sorted.IsOrdered cmp s → 0 < btree_set_len s
      → IsNonEmptySet eq s.keys
  is_set s ordered some =
      by_eq (λ e. IsNonEmptySet e s.keys) (IsDistinct-from_sorted cmp s.keys ordered, some)
