-- `copied`: from a run of its iterator to the list that it yields.
use Rattle.std.proofs.Common.{rules, ap, sym, subst}
use Rattle.std.specs.Prelude.{◌≡◌, List, [], ◌∷◌, Option, Some, None, refl, map}
use Rattle.std.specs.Option.{option_copied}
use Rattle.std.specs.Borrow.{Bor}
use Rattle.std.specs.Iterator.{DrainsIf}
use Rattle.std.specs.Iterator.Adapters.{copied_source, copied_steps}
use Rattle.std.specs.declared.iter.Copied.{Copied}
use Rattle.ne_vec.specs.Lists.{IsPrefix}
use Rattle.ne_iter.specs.Copied.{none_copied, IsCopied}
use Rattle.ne_iter.specs.Sources.{ReadsList, ReadsListThrough, EachReading, Reads}

module _ {S T : Type 0} (W : Type 0) (steps : S → Option (Bor T) → S → Type 0) where
  abbrev Behind : S → List T → Type 0
  Behind s ys = (xs : List (Bor T)) × DrainsIf steps W s xs × (ys ≡ map (λ x. x.now) xs)

  one_copied : (s j : S) (y : T) (ys : List T) (o : Option (Bor T)) → steps s o j
      → Some y ≡ option_copied o → Behind j ys → Behind s (y ∷ ys)
  one_copied s j y ys None st e m = let e = e in search rules
  one_copied s j y ys (Some x) st e m = (
    x ∷ m.0,
    (m.1.0, (j, st, m.1.1), m.1.2),
    (let a = e in let b = m.2 in cc),
  )

  pub DrainsIf-copied : (s : Copied S) (ys : List T) → DrainsIf (copied_steps steps) W s ys
      → Behind (copied_source s) ys
  DrainsIf-copied s [] (t, e, fin) = (
    [],
    (
      copied_source t,
      ap copied_source e,
      λ w. (
        copied_source (fin w).0,
        none_copied steps (copied_source t) (copied_source (fin w).0)
            (fin w).1.0 (fin w).1.1 (fin w).1.2,
      ),
    ),
    refl,
  )
  DrainsIf-copied s (y ∷ ys) (t, (j, st, rest), fin) = one_copied (copied_source s)
      (copied_source j) y ys st.0 st.1 st.2 (DrainsIf-copied j ys (t, rest, fin))

module _ {U V X S T : Type 0} {becomes : U → S → Type 0} {steps : S → Option (Bor X) → S → Type 0}
    {made : V → T → Type 0} {u : U} {v : V} where
  pub copied_list : {next : T → Option X → T → Type 0}
      → EachReading (Reads made next) v (IsCopied (Reads becomes steps) u)
      → (xs : List X) → ReadsListThrough (Reads becomes steps) (λ y. y.now) u xs
      → ReadsList (Reads made next) v xs
  copied_list gives xs list whole ys read =
      let behind = gives whole ys read in
      subst (IsPrefix whole xs) (sym behind.2) (list whole behind.0 behind.1)
