-- When two maps are the same map, up to equality of keys and values.
use Rattle.std.specs.Prelude.{◌≡◌, Bool, true, Option}
use Rattle.std.specs.Option.{option_eq}

-- Each key is in two maps with equal values, or in neither. f and g are their lookups.
abbrev pub IsSameMap : {K V : Type 0} → (V → V → Bool) → (K → Option V) → (K → Option V) → Type 0
IsSameMap {K} eq f g = (q : K) → option_eq eq (f q) (g q) ≡ true
