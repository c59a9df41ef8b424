-- Proofs, for the implementations, from the list that a source yields to each run of its iterator.
use Rattle.std.proofs.Common.{refl, arith, subst, sym, ap, ◌∙◌, map-id}
use Rattle.std.proofs.iter.runs.Lists.{nth_left}
use Rattle.std.proofs.iter.runs.Made.{at-is, took}
use Rattle.std.proofs.iter.runs.Sources.{lists, as_is}
use Rattle.std.specs.Prelude.{◌≡◌, true, List, ◌++◌, length, Option, slice_get}
use Rattle.std.specs.Iterator.{DrainsIf}
use Rattle.std.specs.Iterator.Runs.{Run}
use Rattle.ne_vec.specs.Lists.{Became, YieldsPrefixes, YieldsItems, YieldsThrough, Lists}
use Rattle.ne_vec.specs.Lists.{YieldsPrefixesThrough}
use Rattle.ne_vec.specs.ListLaws.{triggered, of_lists}

-- The calls of a run from `it` yield `p.items`, and then `None` if the run is whole.
pub run_drains : {S A : Type 0} (steps : S → Option A → S → Type 0) (p : Run steps) (it : S)
    → p.from ≡ it → DrainsIf steps (p.whole ≡ true) it p.items
run_drains steps p it from = subst (λ s. DrainsIf steps (p.whole ≡ true) s p.items) from (took p)

module _ {U S A : Type 0} (becomes : U → S → Type 0) (steps : S → Option A → S → Type 0) (u : U)
  where
    yields_prefixes_through : {B : Type 0} (view : A → B) (xs : List B) → Lists becomes steps view u
        xs
        → (it : S) → becomes u it → YieldsPrefixesThrough steps view xs it
    unfolding Lists
    yields_prefixes_through view xs shows it made p seen from =
        let f = shows it made p.whole p.items (run_drains steps p it from) in
        let l = lists p view xs f.0 (λ w. ap length (f.2 w)) f.1 in
        (l.0, l.1, l.6, l.7)

    pub yields_through : {B : Type 0} (view : A → B) (xs : List B)
        → Lists becomes steps view u xs → YieldsThrough becomes steps view u xs
    unfolding Became
    yields_through view xs shows = (
      (triggered u xs, shows),
      yields_prefixes_through view xs shows,
      λ p seen made. yields_prefixes_through view xs shows p.from made p seen refl,
    )

    yields_prefixes : (xs : List A) → Lists becomes steps (λ x. x) u xs → (it : S) → becomes u it
        → YieldsPrefixes steps xs it
    yields_prefixes xs gives it made p seen from =
        let f = of_lists becomes steps u xs gives it made p.whole p.items
        (run_drains steps p it from) in
        let e = subst (λ l. xs ≡ l ++ f.0) (sym (map-id p.items)) f.1 in
        let l = as_is p xs (lists p (λ x. x) xs f.0 (λ w. ap length (f.2 w)) e) in (
          l.0,
          l.4,
          l.5,
          λ k m.
              at-is p k ∙ sym (nth_left p.items f.0 k (omega (arith, m, p.long)))
              ∙ ap (λ l. slice_get l k) (sym f.1),
        )

    pub yields_items : (xs : List A) → Lists becomes steps (λ x. x) u xs
        → YieldsItems becomes steps u xs
    unfolding Became
    yields_items xs gives = (
      (triggered u xs, gives),
      yields_prefixes xs gives,
      λ p seen made. yields_prefixes xs gives p.from made p seen refl,
    )
