-- Proofs, for the implementations, from the calls of an iterator to the list that it yields.
use Rattle.std.proofs.Common.{arith, subst, sym, ap, ◌∙◌, map-id}
use Rattle.std.proofs.lemmas.List.{nil_from_length}
use Rattle.std.specs.Prelude.{◌≡◌, Bool, true, List, [], ◌∷◌, ◌++◌, length, map, Option, Some, None}
use Rattle.std.specs.Prelude.{refl}
use Rattle.std.specs.Borrow.{Bor}
use Rattle.std.specs.Iterator.{DrainsIf, YieldsFirst}
use Rattle.std.specs.Slice.Iter.{iter_steps, iter_rest}
use Rattle.std.specs.Vec.Iter.{into_iter_items, into_iter_len, into_iter_steps}
use Rattle.std.specs.declared.slice.Iter.{Iter}
use Rattle.std.specs.declared.vec.IntoIter.{IntoIter}
use Rattle.ne_vec.specs.Lists.{IsPrefix, Became, Lists, list_trigger}

-- An iterator that takes the first item of the list it has left at each call.
module _ {S A B : Type 0} (steps : S → Option A → S → Type 0) (view : A → B) (rest : S → List B)
    (took : (s t : S) (x : A) → steps s (Some x) t → rest s ≡ view x ∷ rest t)
    (ended : (s t : S) → steps s None t → rest s ≡ []) where
  -- The items yielded, through `view`, are a prefix of `rest s`, and all of `rest s` if W holds.
  pub viewed_prefix : {W : Type 0} (s : S) (ys : List A) → DrainsIf steps W s ys
      → (more : List B) × (rest s ≡ map view ys ++ more) × (W → more ≡ [])
  viewed_prefix s [] (t, e, fin) = (rest s, refl, λ w. ap rest e ∙ ended t (fin w).0 (fin w).1)
  viewed_prefix s (y ∷ ys) (t, (j, st, run), fin) =
      let m = viewed_prefix j ys (t, run, fin) in
      (m.0, took s j y st ∙ ap (λ l. view y ∷ l) m.1, m.2)

-- The items yielded are a prefix of `rest s`, and all of `rest s` if W holds.
pub is_prefix : {S A W : Type 0} (steps : S → Option A → S → Type 0) (rest : S → List A)
    → ((s t : S) (x : A) → steps s (Some x) t → rest s ≡ x ∷ rest t)
    → ((s t : S) → steps s None t → rest s ≡ []) → (s : S) (ys : List A) → DrainsIf steps W s ys
    → (more : List A) × (rest s ≡ ys ++ more) × (W → more ≡ [])
is_prefix steps rest took ended s ys run =
    let m = viewed_prefix steps (λ x. x) rest took ended s ys run in
    (m.0, subst (λ l. rest s ≡ l ++ m.0) (map-id ys) m.1, m.2)

-- `viewed_prefix` for the iterators of slices.
pub referenced_prefix : {T W : Type 0} (s : Iter T) (ys : List (Bor T)) → DrainsIf iter_steps W s ys
    → (more : List T) × (iter_rest s ≡ map (λ y. y.now) ys ++ more) × (W → more ≡ [])
referenced_prefix s ys run = viewed_prefix iter_steps (λ y. y.now) iter_rest (λ s t x st. st)
    (λ s t st. nil_from_length (iter_rest s) st.0) s ys run

-- `is_prefix` for an iterator whose calls are `YieldsFirst`.
pub first_prefix : {S T W : Type 0} (rest : S → List T) (s : S) (ys : List T)
    → DrainsIf (YieldsFirst rest) W s ys
    → (more : List T) × (rest s ≡ ys ++ more) × (W → more ≡ [])
first_prefix rest s ys run = is_prefix (YieldsFirst rest) rest (λ s t x st. st) (λ s t st. st.0) s
    ys
    run

-- `is_prefix` for the iterators of vectors by value, which count their items.
pub counted_prefix : {T Z W : Type 0} (s : IntoIter T Z) (ys : List T)
    → into_iter_len s ≡ length (into_iter_items s) → DrainsIf into_iter_steps W s ys
    → (more : List T) × (into_iter_items s ≡ ys ++ more) × (W → more ≡ [])
counted_prefix s [] fit (t, e, fin) = (
  into_iter_items s,
  refl,
  λ w. nil_from_length (into_iter_items s) (sym fit ∙ ap into_iter_len e ∙ (fin w).1.0),
)
counted_prefix s (y ∷ ys) fit (t, (j, st, run), fin) =
    let long = ap length st.0 in
    let m = counted_prefix j ys (omega (arith, fit, st.1, long)) (t, run, fin) in
    (m.0, st.0 ∙ ap (λ l. y ∷ l) m.1, m.2)

pub triggered : {U A : Type 0} (u : U) (xs : List A) → list_trigger u xs ≡ 0
unfolding list_trigger
triggered u xs = refl

-- From prefixes of xs to `Lists` of the items themselves, and back.
module _ {U S A : Type 0} (becomes : U → S → Type 0) (steps : S → Option A → S → Type 0) (u : U)
    (xs : List A) where
  pub lists_of : ((it : S) → becomes u it → (whole : Bool) (ys : List A)
      → DrainsIf steps (whole ≡ true) it ys → IsPrefix whole xs ys)
      → Lists becomes steps (λ x. x) u xs
  unfolding Lists
  lists_of given it made whole ys run =
      subst (IsPrefix whole xs) (sym (map-id ys)) (given it made whole ys run)

  pub of_lists : Lists becomes steps (λ x. x) u xs → (it : S) → becomes u it
      → (whole : Bool) (ys : List A)
      → DrainsIf steps (whole ≡ true) it ys → IsPrefix whole xs ys
  unfolding Lists
  of_lists l it made whole ys run = subst (IsPrefix whole xs) (map-id ys) (l it made whole ys run)

pub became : {U S : Type 0} (becomes : U → S → Type 0) (u : U) (it : S) → becomes u it
    → Became becomes u it
unfolding Became
became becomes u it made = made
