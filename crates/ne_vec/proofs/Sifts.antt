-- The loop of `retain_mut`: what each turn keeps, and that the closure may be called; and `retain`,
-- whose closure calls another one.
use Rattle.std.proofs.Common.{◌≡◌, ℕ, suc, ◌+◌, ◌<◌, ◌≤◌, Bool, true, false, cond, List, [], ◌∷◌}
use Rattle.std.proofs.Common.{◌++◌}
use Rattle.std.proofs.Common.{length, get_or, take, drop, set, swap, refl, sym, ap, subst, ◌∙◌}
use Rattle.std.proofs.Common.{arith, rules, length-set, drop-set-lt, drop-cons}
use Rattle.std.proofs.lemmas.List.{same_lists, places, get_or-set_same, take-set, get_or_default}
use Rattle.std.proofs.lemmas.List.{get_or_append_left, length-append, set-append_left, take-set-le}
use Rattle.std.proofs.Math.Seq.{get_or-append_seam, set-append_seam}
use Rattle.std.proofs.lemmas.List.Edits.{swap_is}
use Rattle.std.proofs.lemmas.Bool.{cases_eq}
use Rattle.std.proofs.RetainMut.{RetainMutInvariant, sift_on}
use Rattle.std.specs.Prelude.{⊤, All, Contains}
use Rattle.std.specs.Borrow.{Bor, MutBor}
use Rattle.std.specs.Fn.{Mut, CalledAt, CalledAtMut, TakesAt}
use Rattle.std.specs.List.{items_where_true, FoldsTo}
use Rattle.std.specs.List.Retain.{RetainsInTurn, IsFiltered}
use Rattle.ne_vec.specs.Searches.{CallableAtItems, CallableAtItemsMut, TakesAtMut}
use Rattle.std.proofs.lemmas.List.Elements.{All-cons}
use denote.Param.Always.{always_mut, mut_next}

-- A swap of k and i leaves the first k items, and those past i.
module _ {X : Type 0} (ys : List X) (k i : ℕ) (y : X) (le : k ≤ i) (lt : i < length ys) where
  pub front_swap : take k ys ≡ take k (swap ys k i)
  front_swap =
      rw (← swap_is ys k i y (omega arith) lt)
      (sym (take-set-le k _ i _ le ∙ take-set-le k ys k _ (omega arith)))

  pub after_swap : drop (i + 1) ys ≡ drop (i + 1) (swap ys k i)
  after_swap =
      rw (← swap_is ys k i y (omega arith) lt)
      (sym (drop-set-lt (i + 1) _ i _ (omega arith) ∙ drop-set-lt (i + 1) ys k _ (omega arith)))

-- A swap between two parts of a list.
pub parts_swapped : {X : Type 0} (fs bs : List X) (k : ℕ) (x z : X) → k < length fs
    → 0 < length bs → x ≡ get_or bs 0 x → z ≡ get_or fs k z
    → set fs k x ++ set bs 0 z ≡ swap (fs ++ bs) k (length fs)
parts_swapped fs [] k x z lt some first second = absurd (omega arith)
parts_swapped fs (b ∷ bs) k x z lt some first second =
    let long = length-append fs (b ∷ bs) in
    subst (λ q. set fs k q ++ z ∷ bs ≡ swap (fs ++ b ∷ bs) k (length fs)) (sym first)
    (rw (
      ← swap_is (fs ++ b ∷ bs) k (length fs) z (omega (arith, long)) (omega (arith, long)),
      get_or-append_seam fs b bs z,
      get_or_append_left fs (b ∷ bs) z k lt,
      ← second,
      set-append_left fs (b ∷ bs) k b lt,
    ) (subst (λ n. set fs k b ++ z ∷ bs ≡ set (set fs k b ++ b ∷ bs) n z) (length-set fs k b)
    (sym (set-append_seam (set fs k b) b bs z))))

-- A turn at i, with k items kept so far, where the call left y.
module _ {S X : Type 0} (R : S → X → Bool → S → X → Type 0) (s₀ : S) (xs : List X) (s t : S)
    (ys : List X) (k i : ℕ) (x y : X) (le : k ≤ i) (lt : i < length ys) (is : x ≡ get_or ys i x)
    (h : RetainMutInvariant R s₀ xs s ys k i) where
  abbrev written : List X
  written = set ys i y

  long : i < length written
  long = omega (arith, length-set ys i y)

  -- The first k + 1 items are then as after a copy to k.
  copied : take (k + 1) (set written k y) ≡ take (k + 1) (swap written k i)
  copied =
      let size = length-set ys i y in
      rw (← swap_is written k i y (omega arith) (omega arith))
      (same_lists _ _ (search (rules, places))
      (λ j d h. grind (arith, places, get_or-set_same, cases_eq j k, cases_eq j i)))

  past : drop (i + 1) (set written k y) ≡ drop (i + 1) (swap written k i)
  past = drop-set-lt (i + 1) written k y (omega arith) ∙ after_swap written k i y le long

  pub retained : R s x true t y → RetainMutInvariant R s₀ xs t (swap written k i) (k + 1) (i + 1)
  retained called =
      let next = sift_on R s₀ xs s t ys k i x y le lt is h true called in
      (sym past ∙ next.0, rw (← copied) next.1)

  unmoved : k ≡ i → set written k y ≡ written
  unmoved same = same_lists _ _ (length-set written k y) (λ j d h.
      grind (arith, places, get_or-set_same, cases_eq j k, same, lt, length-set ys i y))

  -- An item that stays where it is, as all before it.
  pub stayed : k ≡ i → R s x true t y → RetainMutInvariant R s₀ xs t written (k + 1) (i + 1)
  stayed same called = subst (λ l. RetainMutInvariant R s₀ xs t l (k + 1) (i + 1)) (unmoved same)
      (sift_on R s₀ xs s t ys k i x y le lt is h true called)

  -- An item that goes may stand anywhere behind those that are kept, up to i.
  pub passed_over : (ws : List X) → take k ws ≡ take k written
      → drop (i + 1) ws ≡ drop (i + 1) written → R s x false t y
      → RetainMutInvariant R s₀ xs t ws k (i + 1)
  passed_over ws front back called =
      let next = sift_on R s₀ xs s t ys k i x y le lt is h false called in (
        back ∙ sym (drop-set-lt (i + 1) written k y (omega arith)) ∙ next.0,
        rw (front, ← take-set written k y) next.1,
      )

-- ---- calls with the items in turn

module _ {F A R : Type 0} (calls : Mut F (MutBor A × Unit {0}) (R × (MutBor A × Unit {0}))) where
  -- f may be called with the items of xs in turn.
  abbrev pub InTurn : F → List A → Type 0
  InTurn f [] = ⊤
  InTurn f (x ∷ xs) = TakesAtMut calls f x
      × ((r : R) (g : F) (y : A) → CalledAtMut calls f x r g y → InTurn g xs)

  part_in_turn : (all xs : List A) (f : F) → All (Contains all) xs
      → CallableAtItemsMut calls f all → InTurn f xs
  part_in_turn all [] f among callable = tt
  part_in_turn all (x ∷ xs) f among callable =
      let here = among 0 x (omega arith) in (
        λ p e. callable.at [] f (λ k d h. absurd (omega arith)) refl here.0 x here.1 p
            (e ∙ sym here.2),
        λ r g y called. part_in_turn all xs g (λ k d h. among (suc k) d (omega arith))
            (record {
              at = λ shown h inside folds. callable.at (x ∷ shown) h
                  (All-cons (Contains all) x shown here inside) (g, (r, y, called), folds);
            }),
      )

  pub items_in_turn : (f : F) (xs : List A) → CallableAtItemsMut calls f xs → InTurn f xs
  items_in_turn f xs = part_in_turn xs xs f
      (λ k d h. (k, h, get_or_default xs k (get_or xs k d) d h))

  pub next_turn : (f : F) (ys : List A) (i : ℕ) (x : A) → i < length ys → x ≡ get_or ys i x
      → InTurn f (drop i ys)
      → TakesAtMut calls f x × ((r : R) (g : F) (y : A) → CalledAtMut calls f x r g y
      → InTurn g (drop (i + 1) ys))
  next_turn f ys i x lt is turns =
      let on : suc i ≡ i + 1 = omega arith in
      let there : drop i ys ≡ x ∷ drop (i + 1) ys =
      drop-cons ys i x lt ∙ (λ t. sym is t ∷ drop (on t) ys) in
      subst (InTurn f) there turns

-- ---- a closure each of whose calls calls another one, `under` it, and changes no item

module _ {F G A : Type 0} (inner : Mut F (Bor A × Unit {0}) Bool)
    (outer : Mut G (MutBor A × Unit {0}) (Bool × (MutBor A × Unit {0}))) (under : G → F)
    (calls : (g h : G) (x : A) (r : Bool) (y : A) → CalledAtMut outer g x r h y
    → CalledAt inner (under g) x r (under h) × (y ≡ x)) where
  folds_through : (xs : List A) (g h : G)
      → FoldsTo (λ p x q. (r : Bool) × (y : A) × CalledAtMut outer p x r q y) g xs h
      → FoldsTo (λ p x q. (r : Bool) × CalledAt inner p x r q) (under g) xs (under h)
  folds_through [] g h same = ap under same
  folds_through (x ∷ xs) g h (j, (r, y, called), later) =
      (under j, (r, (calls g j x r y called).0), folds_through xs j h later)

  pub callable_through : (g : G) (xs : List A)
      → ((h : G) (x : A) → TakesAt inner (under h) x → TakesAtMut outer h x)
      → CallableAtItems inner (under g) xs → CallableAtItemsMut outer g xs
  callable_through g xs takes callable =
      record {
        at = λ shown h among folds k d inside. takes h _
            (callable.at shown (under h) among (folds_through shown g h folds) k d inside);
      }

  first : (x : A) (xs ys zs : List A) (b : Bool) (bs : List Bool) → zs ≡ items_where_true bs xs
      → ys ≡ cond b (x ∷ zs) zs → ys ≡ items_where_true (b ∷ bs) (x ∷ xs)
  first x xs ys zs true bs rest is = is ∙ ap (λ l. x ∷ l) rest
  first x xs ys zs false bs rest is = is ∙ rest

  pub filters : (g : G) (xs ys : List A) → RetainsInTurn (CalledAtMut outer) g xs ys
      → IsFiltered (CalledAt inner) (under g) xs ys
  filters g [] ys e = ([], under g, refl, refl, e)
  filters g (x ∷ xs) ys (b, h, y, called, zs, rest, is) =
      let f = filters h xs zs rest in
      let one = calls g h x b y called in (
        b ∷ f.0,
        f.1,
        ap suc f.2,
        (under h, one.0, f.3),
        first x xs ys zs b f.0 f.4 (is ∙ ap (λ v. cond b (v ∷ zs) zs) one.1),
      )

-- ---- closures that may be called with any value

module _ {F A R : Type 0} (calls : Mut F (MutBor A × Unit {0}) (R × (MutBor A × Unit {0}))) where
  always_on : (shown : List A) (f g : F)
      → FoldsTo (λ p x q. (r : R) × (y : A) × CalledAtMut calls p x r q y) f shown g
      → always_mut calls f → always_mut calls g
  always_on [] f g same always = subst (always_mut calls) same always
  always_on (x ∷ shown) f g (j, (r, y, called), later) always =
      always_on shown j g later (mut_next calls f (called.shown, tt) (r, (called.left, tt)) j j
      called.called refl always)

  -- The closure may be called with the items if it may be called with any value.
  pub items_always_mut : (f : F) (xs : List A) → always_mut calls f
      → CallableAtItemsMut calls f xs
  items_always_mut f xs always =
      record {
        at = λ shown g among folds k d inside p e.
            ((always_on shown f g folds always).at ((p, tt) ∷ [])).0;
      }
