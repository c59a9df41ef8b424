-- `copied`: its part, and what it yields.
use Rattle.std.specs.Prelude.{◌≡◌, Bool, List, map, Option, Some, None}
use Rattle.std.specs.Borrow.{Bor}
use Rattle.std.proofs.Common.{rules}
use Rattle.std.specs.Option.{option_copied}
use Rattle.ne_iter.specs.declared.iter.copied.Copied.{Copied}

-- The source of the references.
abbrev pub copied_source : {I : Type 0} → Copied I → I
copied_source s = s.iter

-- ys are the items that the source's references point to.
abbrev pub IsCopied : {U T : Type 0} → (Bool → U → List (Bor T) → Type 0) → U → Bool → List T
    → Type 0
IsCopied {T = T} reads source whole ys = (xs : List (Bor T)) × reads whole source xs
    × (ys ≡ map (λ x. x.now) xs)

-- If a call yields no copy, the iterator of references has ended.
module _ {S T : Type 0} (steps : S → Option (Bor T) → S → Type 0) where
  pub none_copied : (s t : S) (o : Option (Bor T)) → steps s o t → None ≡ option_copied o
      → steps s None t
  none_copied s t None h e = h
  none_copied s t (Some x) h e = let e = e in search rules
