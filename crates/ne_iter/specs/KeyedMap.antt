-- The values of the keys of a map.
use Rattle.std.specs.Prelude.{◌≡◌, Bool, Option, Some, cond}

-- `old` and `new` are the values of the keys before and after: k gets v, and no other key changes.
abbrev pub PutsValue : {K V : Type 0} → (K → K → Bool) → (K → Option V) → K → V → (K → Option V)
    → Type 0
PutsValue {K = K} eq old k v new = (q : K) → new q ≡ cond (eq k q) (Some v) (old q)
