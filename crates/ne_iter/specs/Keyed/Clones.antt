-- When a clone of a map has the same entries, and a clone of a set the same items.
use Rattle.std.specs.Prelude.{◌≡◌, List}

-- If clones of keys and of values equal their originals, fs is es.
abbrev pub KeepsEntries : {K V : Type 0} → (K → K → Type 0) → (V → V → Type 0) → List (K × V)
    → List (K × V) → Type 0
KeepsEntries {K} {V} of_key of_value es fs =
    ((k j : K) → of_key k j → j ≡ k) → ((v w : V) → of_value v w → w ≡ v) → fs ≡ es

-- If clones of items equal their originals, ys is xs.
abbrev pub KeepsItems : {T : Type 0} → (T → T → Type 0) → List T → List T → Type 0
KeepsItems {T} of_item xs ys = ((x y : T) → of_item x y → y ≡ x) → ys ≡ xs
