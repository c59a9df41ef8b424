-- Proofs, for the crates of maps and sets, that a list of clones is not empty if its original is
-- not, and equals its original if each clone equals its own.
use Rattle.std.proofs.Common.{◌<◌, List, [], ◌∷◌, length, ap₂, subst}
use Rattle.std.proofs.lemmas.List.Elements.{length_all_zip}
use Rattle.std.specs.List.{AllZip, each_same}
use Rattle.ne_iter.specs.Keyed.Clones.{KeepsEntries, KeepsItems}

pub nonempty_clones : {X : Type 0} (of : X → X → Type 0) (xs ys : List X) → AllZip of xs ys
    → 0 < length xs → 0 < length ys
nonempty_clones of xs ys zip some = subst (λ n. 0 < n) (length_all_zip of xs ys zip) some

pub keeps_items : {X : Type 0} (of : X → X → Type 0) (xs ys : List X) → AllZip of xs ys
    → KeepsItems of xs ys
keeps_items of [] [] zip same = each_same [] [] zip
keeps_items of [] (y ∷ ys) zip same = absurd zip
keeps_items of (x ∷ xs) [] zip same = absurd zip
keeps_items of (x ∷ xs) (y ∷ ys) zip same =
    ap₂ (λ z zs. z ∷ zs) (same x y zip.0) (keeps_items of xs ys zip.1 same)

pub keeps_entries : {K V : Type 0} (of_key : K → K → Type 0) (of_value : V → V → Type 0)
    (es fs : List (K × V)) → AllZip (λ p q. of_key p.0 q.0 × of_value p.1 q.1) es fs
    → KeepsEntries of_key of_value es fs
keeps_entries of_key of_value es fs zip keys values =
    keeps_items (λ p q. of_key p.0 q.0 × of_value p.1 q.1) es fs zip (λ p q h.
    ap₂ (λ k v. (k, v)) (keys p.0 q.0 h.0) (values p.1 q.1 h.1))
