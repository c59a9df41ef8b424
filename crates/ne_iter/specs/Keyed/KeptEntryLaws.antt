-- Proof, for the crates of maps, of which entries `retain` keeps if its closure is pure.
use Rattle.std.proofs.Common.{◌≡◌, Bool, true, false, cond, List, [], ◌∷◌, refl, subst, ◌∙◌, map}
use Rattle.std.proofs.Common.{ap}
use Rattle.std.specs.List.{filter}
use Rattle.std.specs.Map.{keys_of}
use Rattle.std.specs.Map.Calls.{RetainsPairs}
use Rattle.ne_iter.specs.Keyed.KeptEntries.{kept_entries}

module _ {F K V : Type 0} (called : F → K → V → Bool → V → F → Type 0) (keeps : K → V → Bool)
    (writes : K → V → V) (f : F)
    (pure : (k : K) (v : V) (b : Bool) (w : V) (f' : F) → called f k v b w f'
    → (f' ≡ f) × (b ≡ keeps k v) × (w ≡ writes k v)) where
  pub retains_kept : (es kept : List (K × V)) → RetainsPairs called f es kept
      → kept ≡ kept_entries keeps writes es
  retains_kept [] kept r = r
  retains_kept (e ∷ es) kept (b, w, f', rest, call, others, is) =
      let p = pure e.0 e.1 b w f' call in
      let kept_rest : rest ≡ kept_entries keeps writes es = retains_kept es rest
      (subst (λ v. RetainsPairs called v es rest) p.0 others) in
      let one : kept ≡ cond (keeps e.0 e.1) ((e.0, writes e.0 e.1) ∷ kept_entries keeps writes es)
      (kept_entries keeps writes es) = rw (is, p.1, p.2, kept_rest) refl in
      one ∙ elim (keeps e.0 e.1) as (λ v. cond v
      ((e.0, writes e.0 e.1) ∷ kept_entries keeps writes es) (kept_entries keeps writes es)
      ≡ map (λ e. (e.0, writes e.0 e.1))
      (cond v (e ∷ filter (λ e. keeps e.0 e.1) es)
      (filter (λ e. keeps e.0 e.1) es))) [ true ↦ refl | false ↦ refl ]

module _ {F K V : Type 0} (called : F → K → V → Bool → V → F → Type 0) (keeps : K × V → Bool)
    (f : F)
    (tests : (k : K) (v : V) (b : Bool) (w : V) (f' : F) → called f k v b w f'
    → (f' ≡ f) × (b ≡ keeps (k, v)) × (w ≡ v)) where
  pub retains_filtered : (es kept : List (K × V)) → RetainsPairs called f es kept
      → kept ≡ filter keeps es
  retains_filtered [] kept r = r
  retains_filtered (e ∷ es) kept (b, w, f', rest, call, others, is) =
      let p = tests e.0 e.1 b w f' call in
      let kept_rest : rest ≡ filter keeps es = retains_filtered es rest
      (subst (λ v. RetainsPairs called v es rest) p.0 others) in
      rw (is, p.1, p.2, kept_rest) refl

module _ {F K V : Type 0} (called : F → K → V → Bool → V → F → Type 0) (keeps : K → Bool) (f : F)
    (tests : (k : K) (v : V) (b : Bool) (w : V) (f' : F) → called f k v b w f'
    → (f' ≡ f) × (b ≡ keeps k)) where
  picked : (b : Bool) (k : K) (w : V) (rest : List (K × V))
      → keys_of (cond b ((k, w) ∷ rest) rest) ≡ cond b (k ∷ keys_of rest) (keys_of rest)
  picked true k w rest = refl
  picked false k w rest = refl

  pub retains_keys : (es kept : List (K × V)) → RetainsPairs called f es kept
      → keys_of kept ≡ filter keeps (keys_of es)
  retains_keys [] kept r = ap keys_of r
  retains_keys (e ∷ es) kept (b, w, f', rest, call, others, is) =
      let p = tests e.0 e.1 b w f' call in
      let kept_rest : keys_of rest ≡ filter keeps (keys_of es) = retains_keys es rest
      (subst (λ v. RetainsPairs called v es rest) p.0 others) in
      ap keys_of is ∙ picked b e.0 w rest ∙ rw (p.1, kept_rest) refl
