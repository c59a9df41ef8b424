-- Loops over the items of a source: what they read, and what follows for the lists that it yields.
-- `begun` is the loop's iterator, and `left` is the iterator after the first item.
use Rattle.std.proofs.Common.{ap, append-nil, subst, sym, ◌∙◌}
use Rattle.std.proofs.lemmas.Bool.{OnFalse_from}
use Rattle.std.specs.Prelude.{◌≡◌, true, false, List, [], ◌∷◌, ◌++◌, Option, Some, None, map, refl}
use Rattle.std.specs.Iterator.{Yields}
use Rattle.ne_vec.specs.Lists.{EachView, IsPrefix, Lists, View, itself}
use Rattle.ne_vec.specs.ListLaws.{of_lists, triggered}
use Rattle.ne_iter.specs.Sources.{Reads, ReadsList, ReadsListThrough, SameLists}
use Rattle.ne_iter.specs.SourceLists.{BecomesList}

-- The items of two runs of an iterator, one after the other.
pub Yields-append : {S A : Type 0} (steps : S → Option A → S → Type 0) (xs ys : List A) (s t u : S)
    → Yields steps s xs t → Yields steps t ys u → Yields steps s (xs ++ ys) u
Yields-append steps [] ys s t u a b = subst (λ q. Yields steps q ys u) (sym a) b
Yields-append steps (x ∷ xs) ys s t u a b = (a.0, a.1, Yields-append steps xs ys a.0 t u a.2 b)

-- The first item, followed by those of the loop so far.
pub Yields-first : {S A : Type 0} (steps : S → Option A → S → Type 0) (it : S) (first : A)
    {left begun : S} (xs : List A) (t : S)
    → steps it (Some first) left → begun ≡ left → Yields steps begun xs t
    → Yields steps it (first ∷ xs) t
Yields-first steps it first {left} xs t h e y = (left, h, subst (λ q. Yields steps q xs t) e y)

-- If the loop has ended, the source is read to its end.
pub Reads-loop : {U S A : Type 0} {becomes : U → S → Type 0} {steps : S → Option A → S → Type 0}
    {source : U} (it : S) {first : A} {left begun : S} {xs : List A} (t end : S)
    → becomes source it → steps it (Some first) left → begun ≡ left → Yields steps begun xs t
    → steps t None end → Reads becomes steps true source (first ∷ xs)
Reads-loop {steps = steps} it {first} {xs = xs} t end made h e y
    fin = record {
      it = it;
      made = made;
      given = (
        t,
        Yields-first steps it first xs t h e y,
        λ _.
            (end, fin),
      );
    }

-- If no loop was begun, only the first item is read.
pub Reads-first : {U S A : Type 0} {becomes : U → S → Type 0} {steps : S → Option A → S → Type 0}
    {source : U} (it : S) {first : A} (left : S)
    → becomes source it → steps it (Some first) left → Reads becomes steps false source (first ∷ [])
Reads-first it left made h = record {
  it = it;
  made = made;
  given = (left, (left, h, refl), λ e. cc e);
}

-- If the loop was left at an item, the source is read up to that item.
pub Reads-left : {U S A : Type 0} {becomes : U → S → Type 0} {steps : S → Option A → S → Type 0}
    {source : U} (it : S) {first : A} {left begun : S} (xs : List A) (t : S) (x : A) (u : S)
    → becomes source it → steps it (Some first) left → begun ≡ left → Yields steps begun xs t
    → steps t (Some x) u → Reads becomes steps false source (first ∷ (xs ++ x ∷ []))
Reads-left {steps = steps} it {first} {begun = begun} xs t x u made h e y last =
    record {
      it = it;
      made = made;
      given = (
        u,
        Yields-first steps it first (xs ++ x ∷ []) u h e
            (Yields-append steps xs (x ∷ []) begun t u y (u, last, refl)),
        λ w. cc w,
      );
    }

-- A prefix that is whole is the list.
pub whole_prefix : {A : Type 0} (xs ys : List A) → IsPrefix true xs ys → ys ≡ xs
whole_prefix xs ys h = sym (h.1 ∙ ap (λ l. ys ++ l) (h.2 refl) ∙ append-nil ys)

-- What is read is a prefix of the list that a source yields through a view.
pub reads_through : {U S A B : Type 0} (becomes : U → S → Type 0)
    (steps : S → Option A → S → Type 0) (u : U) (view : A → B) (xs : List B)
    → Lists becomes steps view u xs → ReadsListThrough (Reads becomes steps) view u xs
unfolding Lists
reads_through becomes steps u view xs shows whole ys read =
    shows read.it read.made whole ys read.given

-- So is it of the items themselves.
pub lists_read : {U S A : Type 0} (becomes : U → S → Type 0) (steps : S → Option A → S → Type 0)
    (u : U) (xs : List A) → Lists becomes steps (λ x. x) u xs → ReadsList (Reads becomes steps) u xs
lists_read becomes steps u xs lists whole ys read =
    of_lists becomes steps u xs lists read.it read.made whole ys read.given

-- A value that becomes a source may read each list that the source may read.
pub becomes_read : {W R V T A : Type 0} (meets : W → R → Type 0) (other : R → Option A → R → Type 0)
    (makes : W → V → Type 0) (becomes : V → T → Type 0) (steps : T → Option A → T → Type 0)
    → SameLists meets other makes becomes steps → (w : W) (xs : List A)
    → BecomesList makes becomes steps itself w xs → ReadsList (Reads meets other) w xs
becomes_read meets other makes becomes steps same w xs lists whole ys read =
    let there = (same w whole ys).0 read in
    lists_read becomes steps there.0 xs (lists there.0 there.1) whole ys there.2

-- What holds of the items read to the end, through each view, holds of the list of that view.
pub each_view_read : {U S A : Type 0} {becomes : U → S → Type 0}
    {steps : S → Option A → S → Type 0} {u : U} (P : (view : View A) → List view.Target → Type 0)
    (view : View A) (ys : List A) → Reads becomes steps true u ys
    → ((view : View A) → P view (map view.of ys))
    → EachView view (λ view. Lists becomes steps view.of) u P
each_view_read {becomes = becomes} {steps = steps} {u = u} P view ys read law = (
  (λ xs known. (
    triggered u xs,
    subst (P itself) (whole_prefix xs (map itself.of ys)
        (reads_through becomes steps u itself.of xs known true ys read)) (law itself),
  )),
  OnFalse_from view.is_itself _ (λ _ xs known. (
    triggered u xs,
    subst (P view) (whole_prefix xs (map view.of ys)
        (reads_through becomes steps u view.of xs known true ys read)) (law view),
  )),
)
