-- `peekable`: from a run of its iterator to the list that it yields.
use Rattle.std.proofs.Common.{rules, subst, sym, ap, ◌∙◌}
use Rattle.std.specs.Prelude.{◌≡◌, List, [], ◌∷◌, ◌++◌, length, Option, Some, None, refl, Bool}
use Rattle.std.specs.Prelude.{true, false, ltb, ◌||◌, IfSome, map, slice_get}
use Rattle.std.specs.Iterator.{DrainsIf}
use Rattle.std.specs.Iterator.Runs.{Run}
use Rattle.std.specs.Iterator.Adapters.{once_item, once_steps, chain_first, chain_second}
use Rattle.std.specs.Iterator.Adapters.{chain_first_done, chain_second_done, chain_steps}
use Rattle.std.specs.declared.iter.Once.{Once}
use Rattle.std.specs.declared.iter.Chain.{Chain}
use Rattle.std.proofs.lemmas.Simd.{map-map}
use Rattle.ne_vec.specs.Lists.{IsPrefix, View}
use Rattle.ne_iter.specs.Peekable.{PutsFirst, YieldsRest, with_head, PeekableGives}
use Rattle.ne_iter.specs.Peekable.{peekable_first, peekable_rest, YieldsPeeked}
use Rattle.ne_iter.specs.Sources.{ReadsList, ReadsListThrough, Reads}
use Rattle.ne_iter.specs.declared.iter.peekable.Peekable.{Peekable}
use Rattle.ne_vec.specs.RunLaws.{run_drains}
use Rattle.ne_iter.proofs.Chain.{DrainsIf-chain}
use Rattle.ne_iter.specs.LoopLaws.{whole_prefix}

no_item : {A : Type 0} (x : A) → Some x ≡ None → ⊥
no_item x e = let e = e in search rules

some_more : {A : Type 0} (y : A) (ys : List A) → ltb 0 (length (y ∷ ys)) ≡ true
some_more y ys = search rules

module _ {S A : Type 0} (steps : S → Option A → S → Type 0) (w x : A) (it rest : S)
    (drawn : steps it (Some x) rest) where
  abbrev Headed : Bool → List A → Type 0
  Headed whole zs = DrainsIf steps (whole ≡ true) it (with_head x zs) × (zs ≡ with_head w zs)

  nothing : (whole : Bool) (ys : List A) → ((whole || ltb 0 (length ys)) ≡ true → ⊥)
      → Headed whole ys
  nothing true ys h = absurd (h refl)
  nothing false [] h = ((it, refl, λ e. let e = e in search rules), refl)
  nothing false (y ∷ ys) h = absurd (h (some_more y ys))

  one_first : (whole : Bool) (o : Once A) (xs ys : List A) → once_item o ≡ Some w
      → DrainsIf once_steps ((whole || ltb 0 (length ys)) ≡ true) o xs
      → DrainsIf steps (whole ≡ true) rest ys
      → Headed whole (xs ++ ys)
  one_first whole o [] ys e (t, same, fin) k = nothing whole ys
      (λ h. no_item w (sym e ∙ ap once_item same ∙ sym (fin h).1.0))
  one_first whole o (q ∷ []) ys e (t, (j, st, more), fin)
      k = ((k.0, (rest, drawn, k.1), k.2), (let a = st.0 in let b = e in cc))
  one_first whole o (q ∷ r ∷ xs) ys e (t, (j, st, (i, more, others)), fin) k = absurd
      (no_item r (more.0 ∙ st.1))

  pub DrainsIf-headed : (whole : Bool) (s : Chain (Once A) S) (zs : List A)
      → once_item (chain_first s) ≡ Some w → chain_second s ≡ rest → chain_first_done s ≡ false
      → chain_second_done s ≡ false
      → DrainsIf (chain_steps once_steps steps) (whole ≡ true) s zs → Headed whole zs
  DrainsIf-headed whole s zs e second fresh live k =
      let p = DrainsIf-chain once_steps steps whole s zs fresh live k in
      subst (Headed whole) (sym p.4) (one_first whole (chain_first s) p.0 p.1 e p.2
      (subst (λ q. DrainsIf steps (whole ≡ true) q p.1) second p.3))

headed : {A : Type 0} (w x : A) (whole : Bool) (xs zs : List A)
    → IsPrefix whole xs (with_head x zs) → IsPrefix whole (with_head w xs) (with_head w zs)
headed w x whole xs [] h = (with_head w xs, refl, λ e. ap (with_head w) (h.1 ∙ h.2 e))
headed w x whole xs (z ∷ zs) h = (h.0, ap (with_head w) h.1, h.2)

module _ {U S A : Type 0} (becomes : U → S → Type 0) (steps : S → Option A → S → Type 0) where
  abbrev Peeks : Bool → Peekable S A → List A → Type 0
  Peeks = Reads (λ s it. PutsFirst (peekable_first s) (peekable_rest s) it)
      (chain_steps once_steps steps)

  module _ {u : U} {v : Peekable S A} (gives : PeekableGives (Reads becomes steps) Peeks u v)
      (xs : List A) (list : ReadsList (Reads becomes steps) u xs) where
    pub peekable_list : ReadsList Peeks v xs
    peekable_list whole zs read =
        let parts = gives (peekable_first v) whole zs read in
        let same = parts.1 in
        let prefix = list whole _ parts.0 in
        (prefix.0, (let a = prefix.1 in cc), prefix.2)

    module _ (p : Run (chain_steps once_steps steps))
        (second : chain_second p.from ≡ peekable_rest v) (fresh : chain_first_done p.from ≡ false)
        (live : chain_second_done p.from ≡ false) (whole : p.whole ≡ true) where
      rest_of : (o : Option A) → once_item (chain_first p.from) ≡ o
          → IfSome o (λ w. p.items ≡ with_head w xs)
      rest_of None e = tt
      rest_of (Some w) e =
          let parts = gives w p.whole p.items (record {
            it = p.from;
            made = (e, second, fresh, live);
            given = run_drains _ p p.from refl;
          }) in
          let prefix = headed w (peekable_first v) p.whole xs p.items (list p.whole _ parts.0) in
          parts.1 ∙ whole_prefix (with_head w xs) (with_head w p.items)
          (subst (λ b. IsPrefix b (with_head w xs) (with_head w p.items)) whole prefix)

    -- A whole run, also after the first item was changed.
    pub yields_rest : YieldsRest steps (peekable_rest v) xs
    yields_rest p seen second fresh live whole =
        rest_of p second fresh live whole (once_item (chain_first p.from)) refl

  module _ {u : U} {v : Peekable S A} (gives : PeekableGives (Reads becomes steps) Peeks u v)
      (view : View A) (xs : List view.Target)
      (list : ReadsListThrough (Reads becomes steps) view.of u xs) where
    begins_with : (first : A) → Reads becomes steps false u (first ∷ [])
        → slice_get xs 0 ≡ Some (view.of first)
    begins_with first read = rw ((list false (first ∷ []) read).1) refl

    yields_list : (p : Run (chain_steps once_steps steps))
        → PutsFirst (peekable_first v) (peekable_rest v) p.from → p.whole ≡ true
        → map view.of p.items ≡ xs
    yields_list p puts whole =
        let parts = gives (peekable_first v) true p.items (record {
          it = p.from;
          made = puts;
          given = subst (λ b. DrainsIf (chain_steps once_steps steps) (b ≡ true) p.from p.items)
              whole (run_drains _ p p.from refl);
        }) in
        whole_prefix xs (map view.of p.items) (list true p.items
        (subst (Reads becomes steps true u) (sym parts.1) parts.0))

    pub yields_peeked : Reads becomes steps false u (peekable_first v ∷ [])
        → YieldsPeeked view steps v xs
    yields_peeked read = (
      begins_with (peekable_first v) read,
      λ p seen puts whole.
          let is = yields_list p puts whole in
          (is, λ h. sym (map-map h view.of p.items) ∙ ap (map h) is),
    )
