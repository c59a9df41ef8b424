-- From the readings of a source to the list that it yields, and back.
use Rattle.std.proofs.Common.{arith, sym, subst, ap, ◌∙◌, refl, append-nil, map-id}
use Rattle.std.proofs.lemmas.Iterator.Adapters.{option_map_id}
use Rattle.std.proofs.lemmas.Bool.{OnFalse_from}
use Rattle.std.proofs.lemmas.Option.{same_Some, slice_get-get_or, slice_get-map}
use Rattle.std.proofs.lemmas.List.{length-map, nil_from_length, take_at}
use Rattle.std.specs.Prelude.{◌≡◌, ℕ, suc, ◌<◌, ◌≤◌, Bool, true, List, [], ◌∷◌, ◌++◌, length, Some}
use Rattle.std.specs.Prelude.{map, slice_index_or, slice_get, Option, false, drop, take}
use Rattle.std.specs.Option.{option_map}
use Rattle.std.proofs.iter.runs.Made.{run, to_end}
use Rattle.std.specs.Iterator.{Drains, DrainsIf}
use Rattle.std.specs.Iterator.Runs.{Run}
use Rattle.std.proofs.iter.runs.Sources.{lists}
use Rattle.ne_vec.specs.Lists.{IsPrefix, Lists, YieldsItems, YieldsThrough, YieldsPrefixes}
use Rattle.ne_vec.specs.Lists.{EachView, View, itself}
use Rattle.ne_vec.specs.ListLaws.{lists_of, of_lists, triggered}
use Rattle.ne_vec.specs.RunLaws.{yields_items, yields_through, run_drains}
use Rattle.ne_iter.specs.LoopLaws.{lists_read, reads_through, whole_prefix}
use Rattle.ne_iter.specs.Sources.{ReadsList, ReadsListThrough, Reads, SameLists}
use Rattle.ne_iter.specs.SourceLists.{BecomesList, MeetsList, EachKept, StdYields}

-- A list that has the items of xs at its places, and is no longer, is a prefix of xs.
begins : {A : Type 0} (us xs : List A) → length us ≤ length xs
    → ((k : ℕ) (d : A) → k < length us → slice_index_or us k d ≡ slice_index_or xs k d)
    → (more : List A) × (xs ≡ us ++ more) × (length us ≡ length xs → more ≡ [])
begins [] xs l same = (xs, refl, λ e. nil_from_length xs (sym e))
begins (u ∷ us) [] l same = absurd (omega (arith, l))
begins (u ∷ us) (x ∷ xs) l same =
    let e : u ≡ x = same 0 u (omega arith) in
    let rest = begins us xs (omega (arith, l)) (λ k d m. same (suc k) d (omega (arith, m))) in
    (rest.0, (let h = rest.1 in cc), λ long. rest.2 (omega (arith, long)))

prefix_of : {A : Type 0} (whole : Bool) (xs us : List A) → length us ≤ length xs
    → (whole ≡ true → length us ≡ length xs)
    → ((k : ℕ) (d : A) → k < length us
    → option_map (λ y. y) (slice_get us k) ≡ Some (slice_index_or xs k d))
    → IsPrefix whole xs us
prefix_of whole xs us within ends places =
    let b = begins us xs within (λ k d l.
    same_Some _ _ (sym (ap (option_map (λ y. y)) (slice_get-get_or us k d l)) ∙ places k d l)) in
    (b.0, b.1, λ w. b.2 (ends w))

-- A list whose items, through `view`, are those of xs at the same places is a prefix of xs.
pub viewed_prefix_of : {A B : Type 0} (view : A → B) (whole : Bool) (xs : List B) (us : List A)
    → length us ≤ length xs → (whole ≡ true → length us ≡ length xs)
    → ((k : ℕ) (d : B) → k < length us
    → option_map view (slice_get us k) ≡ Some (slice_index_or xs k d))
    → IsPrefix whole xs (map view us)
viewed_prefix_of view whole xs us within ends places =
    let long = length-map us view in
    prefix_of whole xs (map view us) (subst (λ n. n ≤ length xs) (sym long) within)
    (λ w. long ∙ ends w)
    (λ k d less. option_map_id (slice_get (map view us) k) ∙ slice_get-map view us k
    ∙ places k d (subst (λ n. k < n) long less))

-- A list through the view `itself`.
module _ {U A : Type 0} (reads : Bool → U → List A → Type 0) (u : U) (xs : List A) where
  pub as_items : ReadsListThrough reads (λ x. x) u xs → ReadsList reads u xs
  as_items list whole ys read = subst (IsPrefix whole xs) (map-id ys) (list whole ys read)

module _ {U S A : Type 0} (becomes : U → S → Type 0) (steps : S → Option A → S → Type 0) (u : U)
  where
    pub read_lists : (xs : List A) → ReadsList (Reads becomes steps) u xs
        → YieldsItems becomes steps u xs
    read_lists xs list = yields_items becomes steps u xs (lists_of becomes steps u xs
        (λ it made whole ys given. list whole ys (record { it = it; made = made; given = given })))

    module _ {B : Type 0} (view : A → B) (xs : List B) where
      pub through_reads : ReadsListThrough (Reads becomes steps) view u xs
          → YieldsThrough becomes steps view u xs
      unfolding Lists
      through_reads list = yields_through becomes steps u view xs (λ it made whole ys given.
          list whole ys (record { it = it; made = made; given = given }))

    -- What holds for the items that were read to the end holds for the list through a view.
    pub read_through : {B : Type 0} (view : A → B) (xs : List B)
        → ReadsListThrough (Reads becomes steps) view u xs → (P : List B → Type 0) (ys : List A)
        → Reads becomes steps true u ys → P (map view ys)
        → P xs
    read_through view xs known P ys read =
        subst P (whole_prefix xs (map view ys) (known true ys read))

    -- A clause of the iterator itself, place by place.
    pub meets_read : (view : View A) (xs : List view.Target) → MeetsList becomes steps view u xs
        → ReadsListThrough (Reads becomes steps) view.of u xs
    meets_read view xs meets whole ys read =
        let p = run steps read.it ys whole read.given in
        let f = meets read.it read.made p p.seen refl in
        viewed_prefix_of view.of whole xs ys f.0 f.1 f.2

    module _ (xs : List A) (lists : Lists becomes steps (λ x. x) u xs) (P : List A → Type 0) where
      -- What holds for a list that was read to its end holds for the list that is yielded.
      pub of_read : (ys : List A) → Reads becomes steps true u ys → P ys → P xs
      of_read ys read =
          subst P (whole_prefix xs ys (lists_read becomes steps u xs lists true ys read))

      pub of_drained : (it : S) (ys : List A) → becomes u it → Drains steps it ys → P ys → P xs
      of_drained it ys made drains =
          of_read ys (record { it = it; made = made; given = to_end steps it ys drains })

      pub of_run : (it : S) (p : Run steps) → becomes u it → p.from ≡ it → p.whole ≡ true
          → P p.items → P xs
      of_run it p made from whole =
          let f = of_lists becomes steps u xs lists it made p.whole p.items
          (run_drains steps p it from) in
          subst P (sym (f.1 ∙ ap (λ l. p.items ++ l) (f.2 whole) ∙ append-nil p.items))

-- A value that becomes a source may read each list that the source may read.
module _ {W R V T A : Type 0} (meets : W → R → Type 0) (other : R → Option A → R → Type 0)
    (makes : W → V → Type 0) (becomes : V → T → Type 0) (steps : T → Option A → T → Type 0)
    (same : SameLists meets other makes becomes steps) (w : W) where
  pub becomes_read_through : (view : View A) (xs : List view.Target)
      → BecomesList makes becomes steps view w xs → ReadsListThrough (Reads meets other) view.of w
      xs
  becomes_read_through view xs shows whole ys read =
      let there = (same w whole ys).0 read in
      reads_through becomes steps there.0 view.of xs (shows there.0 there.1) whole ys there.2

-- What holds for each view holds for the items themselves, and through the view of the source.
pub each_view : {U S A : Type 0} {becomes : U → S → Type 0} {steps : S → Option A → S → Type 0}
    {u : U} (P : (view : View A) → List view.Target → Type 0) (view : View A)
    → ((view : View A) (xs : List view.Target) → ReadsListThrough (Reads becomes steps) view.of u xs
    → P view xs) → EachView view (λ view. Lists becomes steps view.of) u P
each_view {becomes = becomes} {steps = steps} {u = u} P view law = (
  (λ xs known. (triggered u xs, law itself xs (reads_through becomes steps u itself.of xs known))),
  OnFalse_from view.is_itself _ (λ _ xs known.
      (triggered u xs, law view xs (reads_through becomes steps u view.of xs known))),
)

-- An iterator of std, which becomes itself: the items that its runs yield.
pub yields_prefixes : {T B : Type 0} {next : T → Option B → T → Type 0} (v : T) (ys : List B)
    → ReadsList (Reads (λ s it. it ≡ s) next) v ys → YieldsPrefixes next ys v
yields_prefixes v ys list = (read_lists _ _ v ys list).1 v refl

pub std_yields : {T B : Type 0} {next : T → Option B → T → Type 0} (view : View B) (v : T)
    (ys : List view.Target) → ReadsListThrough (Reads (λ s it. it ≡ s) next) view.of v ys
    → StdYields next view ys v
std_yields {next = next} view v ys list p seen from =
    let prefix = list p.whole p.items
    (record { it = v; made = refl; given = run_drains next p v from }) in
    let us = map view.of p.items in
    let long = length-map p.items view.of ∙ sym p.long in (
      sym (ap (take p.len) prefix.1 ∙ take_at us prefix.0 p.len long),
      lists p view.of ys prefix.0 (λ w. ap length (prefix.2 w)) prefix.1,
    )

-- What holds for each view, if the result is an iterator of std.
pub each_kept : {U S T A : Type 0} {becomes : U → S → Type 0} {steps : S → Option A → S → Type 0}
    {u : U} (next : T → Option A → T → Type 0) (it : T)
    (P : (view : View A) → List view.Target → (List view.Target → Type 0) → Type 0) (view : View A)
    → ((view : View A) (xs : List view.Target) → ReadsListThrough (Reads becomes steps) view.of u xs
    → (gives : List view.Target → Type 0)
    → ((ys : List view.Target) → ReadsListThrough (Reads (λ s t. t ≡ s) next) view.of it ys → gives
    ys)
    → P view xs gives)
    → EachKept view (λ view. Lists becomes steps view.of) u next it P
each_kept {becomes = becomes} {steps = steps} {u = u} next it P view law = (
  (λ xs known. (
    triggered u xs,
    law itself xs (reads_through becomes steps u itself.of xs known)
        (λ ys. YieldsPrefixes next ys it)
        (λ ys list. yields_prefixes it ys (as_items (Reads (λ s t. t ≡ s) next) it ys list)),
  )),
  OnFalse_from view.is_itself _ (λ _ xs known. (
    triggered u xs,
    law view xs (reads_through becomes steps u view.of xs known) (λ ys. StdYields next view ys it)
        (λ ys list. std_yields view it ys list),
  )),
)

module _ {U S A : Type 0} (becomes : U → S → Type 0) (steps : S → Option A → S → Type 0)
    (u : U) (xs : List A) (list : ReadsList (Reads becomes steps) u xs) where
  -- The iterator `it` returned x, and became `rest`.
  pub begins_list : (it rest : S) (x : A) → becomes u it → steps it (Some x) rest
      → (xs ≡ x ∷ drop 1 xs) × YieldsPrefixes steps (drop 1 xs) rest
  begins_list it rest x made step = (first.1 ∙ sym (ap (λ l. x ∷ drop 1 l) first.1), others)
    where
      came : (s : S) (whole : Bool) (ys : List A) → s ≡ rest → DrainsIf steps (whole ≡ true) s ys
          → IsPrefix whole xs (x ∷ ys)
      came s whole ys same given = list whole (x ∷ ys) (record {
        it = it;
        made = made;
        given = (given.0, (s, subst (λ t. steps it (Some x) t) (sym same) step, given.1), given.2);
      })

      first : IsPrefix false xs (x ∷ [])
      first = came rest false [] refl (rest, refl, λ w. let w = w in cc)

      others : YieldsPrefixes steps (drop 1 xs) rest
      others = yields_prefixes rest (drop 1 xs) (λ whole ys read.
          let f = came read.it whole ys read.made read.given in
          (f.0, ap (drop 1) f.1, f.2))
