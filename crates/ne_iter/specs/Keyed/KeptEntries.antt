-- The entries that `retain` keeps of a map or set, and when its closure is pure.
use Rattle.std.specs.Prelude.{◌≡◌, Bool, List, Result, Ok, Err, map}
use Rattle.std.specs.Borrow.{Bor, MutBor}
use Rattle.std.specs.List.{filter}
use Rattle.std.specs.Map.Calls.{CalledAtPair}
use denote.Param.Members.{Mut}

-- The collection that is returned, which has an item if it is `Ok` and none if it is `Err`.
abbrev pub either_way : {A : Type 0} → Result A A → A
either_way (Ok a) = a
either_way (Err a) = a

-- Each call of f with a `&` to the key k and a `&mut` to the value v of an entry returns
-- `keeps k v`, leaves `writes k v` in place of v, and leaves f unchanged.
abbrev pub ActsAsAtEntry : {F K V : Type 0}
    → Mut F (Bor K × (MutBor V × Unit {0})) (Bool × (MutBor V × Unit {0}))
    → F → (K → V → Bool) → (K → V → V) → Type 0
ActsAsAtEntry {F} {K} {V} g f keeps writes = (k : K) (v : V) (kept : Bool) (w : V) (f' : F)
    → CalledAtPair g f k v kept w f' → (f' ≡ f) × (kept ≡ keeps k v) × (w ≡ writes k v)

-- The entries for which `keeps` is true, in order, with the values that `writes` says.
abbrev pub kept_entries : {K V : Type 0} → (K → V → Bool) → (K → V → V) → List (K × V)
    → List (K × V)
kept_entries keeps writes es = map (λ e. (e.0, writes e.0 e.1)) (filter (λ e. keeps e.0 e.1) es)

-- Each call of f with a `&` to the key k and a `&mut` to the value v of an entry returns
-- `keeps (k, v)`, and leaves v and f unchanged.
abbrev pub TestsEntries : {F K V : Type 0}
    → Mut F (Bor K × (MutBor V × Unit {0})) (Bool × (MutBor V × Unit {0}))
    → F → (K × V → Bool) → Type 0
TestsEntries {F} {K} {V} g f keeps = (k : K) (v : V) (kept : Bool) (w : V) (f' : F)
    → CalledAtPair g f k v kept w f' → (f' ≡ f) × (kept ≡ keeps (k, v)) × (w ≡ v)

-- Each call of f with a `&` to the key k and a `&mut` to a value returns `keeps k`, and leaves f
-- unchanged.
abbrev pub TestsKeys : {F K V : Type 0}
    → Mut F (Bor K × (MutBor V × Unit {0})) (Bool × (MutBor V × Unit {0})) → F → (K → Bool) → Type 0
TestsKeys {F} {K} {V} g f keeps = (k : K) (v : V) (kept : Bool) (w : V) (f' : F)
    → CalledAtPair g f k v kept w f' → (f' ≡ f) × (kept ≡ keeps k)
