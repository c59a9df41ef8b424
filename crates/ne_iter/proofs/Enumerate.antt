-- `enumerate`: from a run of its iterator to the list that it yields.
use Rattle.std.specs.Prelude.{◌≡◌, ℕ, List, [], ◌∷◌, Option, refl, suc, ◌+◌, Bool, ◌++◌, length}
use Rattle.std.specs.Prelude.{map, ◌≤◌, true}
use Rattle.std.specs.Iterator.{DrainsIf}
use Rattle.std.specs.Iterator.Adapters.{enumerate_source, enumerate_count, enumerate_steps}
use Rattle.std.specs.declared.iter.Enumerate.{Enumerate}
use Rattle.std.specs.List.{enumerate_from}
use Rattle.std.proofs.Common.{arith, ap, ◌∙◌, sym, subst}
use Rattle.std.proofs.lemmas.Bool.{OnFalse_from}
use Rattle.std.proofs.lemmas.List.FromFn.{length-enumerate_from}
use Rattle.std.specs.Iterator.Runs.{EachRunFrom}
use Rattle.ne_vec.specs.Lists.{IsPrefix, Lists, YieldsItems, YieldsThrough, YieldsPrefixesThrough}
use Rattle.ne_vec.specs.Lists.{View, itself, numbered}
use Rattle.ne_vec.specs.ListLaws.{triggered}
use Rattle.ne_iter.specs.Sources.{ReadsListThrough, EachReading, Reads}
use Rattle.ne_iter.specs.Enumerate.{IsEnumerated, NumbersLists}
use Rattle.ne_iter.specs.LoopLaws.{reads_through}
use Rattle.ne_iter.proofs.SourceLists.{read_lists, through_reads, as_items}

pub DrainsIf-enumerate : {W S A : Type 0} (steps : S → Option A → S → Type 0) (s : Enumerate S)
    (ys : List (ℕ × A))
    → DrainsIf (enumerate_steps steps) W s ys → (xs : List A)
    × DrainsIf steps W (enumerate_source s) xs × (ys ≡ enumerate_from (enumerate_count s) xs)
DrainsIf-enumerate steps s [] (t, e, fin) = (
  [],
  (enumerate_source t, cc, λ w. (enumerate_source (fin w).0, (fin w).1.0)),
  refl,
)
DrainsIf-enumerate steps s ((i, y) ∷ ys) (t, (j, st, rest), fin) =
    let ih = DrainsIf-enumerate steps j ys (t, rest, fin) in (
      y ∷ ih.0,
      (ih.1.0, (enumerate_source j, st.0, ih.1.1), ih.1.2),
      (let a = ih.2 in let b = st.1 in let c = st.2 in cc),
    )

enumerate_append : {A : Type 0} (k : ℕ) (us more : List A)
    → enumerate_from k (us ++ more) ≡ enumerate_from k us ++ enumerate_from (k + length us) more
enumerate_append k [] more = let e : k ≡ k + 0 = omega arith in ap (λ n. enumerate_from n more) e
enumerate_append k (u ∷ us) more =
    let e : k + 1 + length us ≡ k + suc (length us) = omega arith in
    ap (λ l. (k, u) ∷ l) (enumerate_append (k + 1) us more
    ∙ ap (λ n. enumerate_from (k + 1) us ++ enumerate_from n more) e)

pub enumerate_prefix : {A : Type 0} (whole : Bool) (xs us : List A)
    → IsPrefix whole xs us → IsPrefix whole (enumerate_from 0 xs) (enumerate_from 0 us)
enumerate_prefix whole xs us f = (
  enumerate_from (0 + length us) f.0,
  ap (enumerate_from 0) f.1 ∙ enumerate_append 0 us f.0,
  λ w. ap (enumerate_from (0 + length us)) (f.2 w),
)

module _ {A B : Type 0} (view : A → B) where
  pub enumerate_map : (n : ℕ) (us : List A)
      → map (λ p. (p.0, view p.1)) (enumerate_from n us) ≡ enumerate_from n (map view us)
  enumerate_map n [] = refl
  enumerate_map n (u ∷ us) = ap (λ l. (n, view u) ∷ l) (enumerate_map (n + 1) us)

module _ {U V A S T : Type 0} {becomes : U → S → Type 0} {steps : S → Option A → S → Type 0}
    {made : V → T → Type 0} {u : U} {v : V} where
  module _ {next : T → Option (ℕ × A) → T → Type 0}
      (gives : EachReading (Reads made next) v (IsEnumerated (Reads becomes steps) u)) where
    pub enumerate_view : {B : Type 0} (view : A → B) (xs : List B)
        → ReadsListThrough (Reads becomes steps) view u xs
        → ReadsListThrough (Reads made next) (λ p. (p.0, view p.1)) v (enumerate_from 0 xs)
    enumerate_view view xs list whole ys read =
        let behind = gives whole ys read in
        let us = behind.0 in
        let viewed = ap (map (λ p. (p.0, view p.1))) behind.2 ∙ enumerate_map view 0 us in
        subst (IsPrefix whole (enumerate_from 0 xs)) (sym viewed)
        (enumerate_prefix whole xs (map view us) (list whole us behind.1))

module _ {U V A S T : Type 0} {becomes : U → S → Type 0} {steps : S → Option A → S → Type 0}
    {made : V → T → Type 0} {u : U} {v : V} (view : View A) where
  pub numbers_lists : {next : T → Option (ℕ × A) → T → Type 0}
      → EachReading (Reads made next) v (IsEnumerated (Reads becomes steps) u)
      → NumbersLists view (λ view. Lists becomes steps view.of) (YieldsItems made next)
      (λ view. YieldsThrough made next view.of) made next u v
  numbers_lists {next} gives = (
    (λ xs known.
        let given = viewed itself xs known in (
          triggered u xs,
          (
            read_lists made next v (enumerate_from 0 xs) (as_items (Reads made next) v
                (enumerate_from 0 xs) (numbers itself xs known)),
            λ it m. counts_as xs it (given.1 it m),
          ),
        )),
    OnFalse_from view.is_itself _ (λ _ xs known.
        let given = viewed view xs known in
        (triggered u xs, (given, λ it m. counts_as xs it (given.1 it m)))),
  )
    where
      numbers : (view : View A) (xs : List view.Target) → Lists becomes steps view.of u xs
          → ReadsListThrough (Reads made next) (numbered view).of v (enumerate_from 0 xs)
      numbers view xs known =
          enumerate_view gives view.of xs (reads_through becomes steps u view.of xs known)

      viewed : (view : View A) (xs : List view.Target) → Lists becomes steps view.of u xs
          → YieldsThrough made next (numbered view).of v (enumerate_from 0 xs)
      viewed view xs known =
          through_reads made next v (numbered view).of (enumerate_from 0 xs) (numbers view xs known)

      -- An adapter that numbers the items of xs yields as many items.
      counts_as : {B : Type 0} {of : ℕ × A → ℕ × B} (xs : List B) (it : T)
          → YieldsPrefixesThrough next of (enumerate_from 0 xs) it
          → EachRunFrom next it (λ p. (p.len ≤ length xs) × (p.whole ≡ true → p.len ≡ length xs))
      counts_as xs it fronts p seen from =
          let f = fronts p seen from in
          let as_many = length-enumerate_from 0 xs in
          (subst (λ n. p.len ≤ n) as_many f.0, λ w. f.1 w ∙ as_many)
