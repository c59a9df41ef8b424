-- From the lists that two sources yield to the pairs that their product yields.
use Rattle.std.proofs.Common.{ap, append-nil, inl, inr, refl, subst, sym, ◌∙◌}
use Rattle.std.specs.Prelude.{◌≡◌, Bool, true, List, Ok, Option, Result, map, length, ◌++◌}
use Rattle.std.specs.Iterator.{Count, DrainsIf}
use Rattle.std.specs.declared.alloc.AllocError.{AllocError}
use Rattle.ne_vec.specs.Lists.{Lists, itself}
use Rattle.ne_vec.specs.ListLaws.{lists_of, triggered}
use Rattle.ne_iter.specs.LoopLaws.{becomes_read, lists_read}
use Rattle.ne_iter.specs.Sources.{ReadsList, Reads, SameLists}
use Rattle.ne_iter.specs.SourceLists.{BecomesList}
use Rattle.ne_products.specs.Pairs.{cartesian_product, pairs_by_row, CanRefuse, ClonedPairs}
use Rattle.ne_products.specs.Restarts.{ClonesAgain, HasExactClones, NeverRefuses, RestartsFrom}
use Rattle.ne_products.specs.Restarts.{PairsListed, PairsLists, YieldsPairs}
use Rattle.ne_products.proofs.ProductPrefixes.{all_values, product_prefix}
use Rattle.ne_products.proofs.ProductRows.{cloned_longer, equal_rows}

-- The iterator, as a source, yields the list.
abbrev Yields : {J B : Type 0} → (J → Option B → J → Type 0) → J → List B → Type 0
Yields next = ReadsList (Reads (λ i j. j ≡ i) next)

-- An iterator that a source becomes yields the list that the source yields.
pub each_yields : {W X R J B : Type 0} {meets : W → R → Type 0} {other : R → Option B → R → Type 0}
    {makes : W → X → Type 0} {begins : X → J → Type 0} (next : J → Option B → J → Type 0)
    → SameLists meets other makes begins next → {w : W} {x : X} → makes w x → {ys : List B}
    → ReadsList (Reads meets other) w ys → (j : J) → begins x j → Yields next j ys
each_yields next same {w} {x} made list j begun whole zs read = list whole zs
    ((same w whole zs).1 x made (record {
      it = j;
      made = begun;
      given = subst (λ i. DrainsIf next (whole ≡ true) i zs) read.made read.given;
    }))

-- The clause `gives` of a product v whose sides are u and x.
abbrev Gives : {U V X J A B E : Type 0} → (Bool → U → List A → Type 0)
    → (Bool → V → List (Result (A × B) E) → Type 0) → (J → Count) → (J → J → Type 0)
    → (J → Option B → J → Type 0) → (A → A → Type 0) → (A → Type 0) → (X → J → Type 0)
    → (J → Type 0) → U → X → V → Type 0
Gives reads paired left copies next clones infallible begins certain u x v = YieldsPairs reads
    (ClonesAgain begins left copies x) (begins x) (Reads (λ i j. j ≡ i) next) copies clones
    infallible (CanRefuse begins certain x) paired u v

-- The list that a product yields.
pub product_list : {U V X T J A B E : Type 0} {reads : Bool → U → List A → Type 0}
    {made : V → T → Type 0} {steps : T → Option (Result (A × B) E) → T → Type 0}
    {copies : J → J → Type 0} {next : J → Option B → J → Type 0} (left : J → Count)
    (clones : A → A → Type 0) (infallible : A → Type 0) (begins : X → J → Type 0)
    (certain : J → Type 0) {u : U} (x : X) {v : V}
    → Gives reads (Reads made steps) left copies next clones infallible begins certain u x v
    → ClonesAgain begins left copies x → NeverRefuses begins certain x
    → (xs : List A) (ys : List B) → HasExactClones clones infallible xs → ReadsList reads u xs
    → ((j : J) → begins x j → Yields next j ys)
    → ReadsList (Reads made steps) v (map Ok (cartesian_product xs ys))
product_list {J = J} {copies = copies} {next = next} left clones infallible begins certain x gives
    again sure xs ys exact first each whole zs read =
    let came = gives again whole zs read in
    let p = came.2 in
    let refused = CanRefuse begins certain x in
    let rows = equal_rows (Reads (λ i j. j ≡ i) next) (RestartsFrom copies came.0) ys
    (each_row came.0 came.1) _ p.items p.rows p.same_length p.read_rows in
    product_prefix clones infallible refused (λ can. can.2 (sure can.0 can.1)) whole xs p.items ys
    zs exact (first _ p.items p.read)
    (subst (λ ps. ClonedPairs clones infallible refused ps zs) (sym rows.1)
    (cloned_longer clones infallible refused rows.0 (pairs_by_row p.items p.rows) zs p.paired))
    (λ w. p.all w ∙ sym (ap length (rows.1 ∙ ap (λ l. pairs_by_row p.items p.rows ++ l)
    (rows.2 w) ∙ append-nil (pairs_by_row p.items p.rows))))
  where
    each_row : (j : J) → begins x j → (i : J) → RestartsFrom copies j i → Yields next i ys
    each_row j begun i (inl e) = subst (λ k. Yields next k ys) (sym e) (each j begun)
    each_row j begun i (inr (c, copy, more)) =
        each i (again c i (again j c begun copy).0 more).0

module _ {U V W R X S T J A B : Type 0} (becomes : U → S → Type 0)
    (steps : S → Option A → S → Type 0) (meets : W → R → Type 0) (other : R → Option B → R → Type 0)
    (made : V → T → Type 0) (next : T → Option (Result (A × B) AllocError) → T → Type 0)
    (left : J → Count) (copies : J → J → Type 0) (others : J → Option B → J → Type 0)
    (clones : A → A → Type 0) (infallible : A → Type 0) (makes : W → X → Type 0)
    (begins : X → J → Type 0) (certain : J → Type 0) (u : U) (w : W) (x : X) (v : V)
    (same : SameLists meets other makes begins others) (from : makes w x)
    (gives : Gives (Reads becomes steps) (Reads made next) left copies others clones infallible
    begins certain u x v) where
  abbrev Exact : List A → Type 0
  Exact xs = HasExactClones clones infallible xs × NeverRefuses begins certain x
      × ClonesAgain begins left copies x

  listed : (xs : List A) (ys : List B) → ReadsList (Reads becomes steps) u xs
      → ReadsList (Reads meets other) w ys → PairsListed made next Exact v xs ys
  listed xs ys first second exact =
      let each = each_yields others same from second in
      let list = product_list left clones infallible begins certain x gives exact.2 exact.1 xs ys
      exact.0 first each in (
        all_values (cartesian_product xs ys),
        (
          triggered v (map Ok (cartesian_product xs ys)),
          lists_of made next v (map Ok (cartesian_product xs ys)) (λ it m whole zs given.
              list whole zs (record { it = it; made = m; given = given })),
        ),
      )

  pub pairs_lists : PairsLists (Lists becomes steps (λ x. x)) (Lists meets other (λ x. x))
      (BecomesList makes begins others itself) (PairsListed made next Exact v) u w
  pairs_lists = (
    (λ xs first. (
      triggered u xs,
      λ ys second. (
        triggered w ys,
        listed xs ys (lists_read becomes steps u xs first) (lists_read meets other w ys second),
      ),
    )),
    λ xs ys. (
      refl,
      λ first second. listed xs ys (lists_read becomes steps u xs first)
          (becomes_read meets other makes begins others same w ys second),
    ),
  )
