-- `cloned`: from a run of its iterator to the list that it yields.
use Rattle.std.proofs.Common.{rules, ap, sym, subst}
use Rattle.std.specs.Prelude.{◌≡◌, List, [], ◌∷◌, Option, Some, None, MatchOption, Result, Ok, Err}
use Rattle.std.specs.Prelude.{map, refl}
use Rattle.std.specs.List.{AllZip}
use Rattle.std.specs.Borrow.{Bor}
use Rattle.std.specs.Iterator.{DrainsIf}
use Rattle.ne_vec.specs.Lists.{IsPrefix}
use Rattle.ne_iter.specs.Cloned.{ClonesNext, TriesClone, none_cloned, IsCloned}
use Rattle.ne_iter.specs.declared.iter.cloned.ClonedIter.{ClonedIter}
use Rattle.ne_iter.specs.Sources.{ReadsList, ReadsListThrough, EachReading, Reads}
use Rattle.ne_iter.proofs.Map.{map_prefix}

module _ {S T : Type 0} (W : Type 0) (steps : S → Option (Bor T) → S → Type 0) where
  module _ {R : Type 0} (tries : T → R → Type 0) where
    abbrev Clones : S → List R → Type 0
    Clones s ys = (xs : List (Bor T)) × DrainsIf steps W s xs × AllZip (λ x r. tries x.now r) xs ys

    one_cloned : (s j : S) (y : R) (ys : List R) (o : Option (Bor T)) → steps s o j
        → MatchOption o (Some y ≡ None) (λ x. tries x.now y) → Clones j ys → Clones s (y ∷ ys)
    one_cloned s j y ys None st e m = let e = e in search rules
    one_cloned s j y ys (Some x) st e m = (x ∷ m.0, (m.1.0, (j, st, m.1.1), m.1.2), (e, m.2))

    pub DrainsIf-cloned : (s : ClonedIter S) (ys : List R)
        → DrainsIf (λ s r t. ClonesNext steps tries s.iter r t.iter) W s ys → Clones s.iter ys
    DrainsIf-cloned s [] (t, e, fin) = (
      [],
      (
        t.iter,
        ap (λ q. q.iter) e,
        λ w. (
          (fin w).0.iter,
          none_cloned steps R tries t.iter (fin w).0.iter (fin w).1.0 (fin w).1.1
              (fin w).1.2,
        ),
      ),
      tt,
    )
    DrainsIf-cloned s (y ∷ ys) (t, (j, st, rest), fin) = one_cloned s.iter j.iter y ys st.0 st.1
        st.2 (DrainsIf-cloned j ys (t, rest, fin))

module _ {T E : Type 0} (clones : T → T → Type 0) (infallible : T → Type 0) where
  pub only_ok : (x : T) → infallible x → ((y : T) → clones x y → y ≡ x)
      → (r : Result T E) → TriesClone clones infallible x r → r ≡ Ok x
  only_ok x none same (Ok y) h = ap Ok (same y h)
  only_ok x none same (Err e) h = absurd (h none)

  pub clones_in_ok : ((x : T) → infallible x) → ((x y : T) → clones x y → y ≡ x)
      → (xs : List (Bor T)) (ys : List (Result T E))
      → AllZip (λ x r. TriesClone clones infallible x.now r) xs ys
      → ys ≡ map Ok (map (λ x. x.now) xs)
  clones_in_ok none same [] [] h = refl
  clones_in_ok none same [] (y ∷ ys) h = absurd h
  clones_in_ok none same (x ∷ xs) [] h = absurd h
  clones_in_ok none same (x ∷ xs) (y ∷ ys) h =
      let first = only_ok x.now (none x.now) (same x.now) y h.0 in
      let others = clones_in_ok none same xs ys h.1 in
      cc

module _ {U V X S T : Type 0} {becomes : U → S → Type 0} {steps : S → Option (Bor X) → S → Type 0}
    {made : V → T → Type 0} {u : U} {v : V} where
  pub cloned_list : {E : Type 0} {next : T → Option (Result X E) → T → Type 0}
      (clones : X → X → Type 0) (infallible : X → Type 0)
      → EachReading (Reads made next) v (IsCloned (Reads becomes steps)
      (TriesClone clones infallible) u)
      → (xs : List X) → ((x : X) → infallible x) → ((x y : X) → clones x y → y ≡ x)
      → ReadsListThrough (Reads becomes steps) (λ y. y.now) u xs → ReadsList (Reads made next) v
      (map Ok xs)
  cloned_list clones infallible gives xs none same list whole ys read =
      let behind = gives whole ys read in
      let viewed = map (λ x. x.now) behind.0 in
      let all = clones_in_ok clones infallible none same behind.0 ys behind.2 in
      subst (IsPrefix whole (map Ok xs)) (sym all)
      (map_prefix Ok whole xs viewed (list whole behind.0 behind.1))
