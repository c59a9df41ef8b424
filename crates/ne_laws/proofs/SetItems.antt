-- The items of a set after a change, read by equality.
use Rattle.std.proofs.Common.{◌≡◌, ◌∙◌, ℕ, suc, ◌+◌, ◌<◌, ◌-◌, Bool, true, false, cond, not, List}
use Rattle.std.proofs.Common.{[], ◌∷◌, ◌++◌, length, Option, None, Some, is_some, ap, refl, sym}
use Rattle.std.proofs.Common.{arith, true≢false, inl, inr, Result, Ok, Err, IfOk, OnOk}
use Rattle.std.specs.Prelude.{◌||◌, ◌⊎◌, MatchBool, MatchOption, if◌then◌else◌, position}
use Rattle.std.specs.Prelude.{slice_index_or, swap_remove}
use Rattle.std.specs.Bool.{OnFalse, OnTrue}
use Rattle.std.specs.BTreeSet.{insert_key, replace_key}
use Rattle.std.specs.Cmp.{IsEquivalence}
use Rattle.std.specs.List.{All, find, list_any, IsDistinct}
use Rattle.std.specs.List.Sorted.{IsPermutation}
use Rattle.std.specs.Option.{option_map_or}
use Rattle.std.specs.Ordering.{eq_by_cmp, is_eq, match_ordering}
use Rattle.std.specs.Set.{swap_key}
use Rattle.std.specs.declared.cmp.Ordering.{Ordering}
use Rattle.std.specs.declared.cmp.Ordering.TheVariants.{Less, Equal, Greater}
use Rattle.indexmap.specs.IndexMap.{swap_remove_by}
use Rattle.std.proofs.lemmas.List.Elements.{All-cons, All-from_recursion, All-head, All-set}
use Rattle.std.proofs.lemmas.List.Elements.{All-tail, All-take}
use Rattle.std.proofs.lemmas.List.Sorted.{All-permutation, list_any-IsPermutation}
use Rattle.std.proofs.lemmas.List.Sorted.{IsPermutation-sym, IsPermutation-to_front}
use Rattle.nonempty_collections.specs.Taken.{RemovesFoundUnlessLast}
use Rattle.ne_index.specs.Puts.{put_in_place}
use Rattle.ne_laws.specs.Sets.{Adds, Discards, Puts, Removes}

not_below_zero : (k : ℕ) → k < 0 → ⊥
not_below_zero k below = omega arith

last_below : (n : ℕ) → suc n - 1 < suc n
last_below n = omega arith

-- An item is found if and only if one passes.
pub is_found : {T : Type 0} (test : T → Bool) (xs : List T)
    → is_some (find test xs) ≡ list_any test xs
is_found test [] = refl
is_found test (x ∷ xs) = by (test x) (is_found test xs)
  where
    by : (b : Bool) → is_some (find test xs) ≡ list_any test xs
        → is_some (cond b (Some x) (find test xs)) ≡ (b || list_any test xs)
    by true h = refl
    by false h = h

none : {T : Type 0} (o : Option T) → is_some o ≡ false → o ≡ None
none None h = refl
none (Some x) h = absurd (true≢false h)

-- What holds of all items holds of those that `swap_remove` leaves.
pub all_after_swap_remove : {T : Type 0} (test : T → Bool) (xs : List T) (P : T → Type 0)
    → All P xs → All P (swap_remove_by test xs)
all_after_swap_remove test [] P all = all
all_after_swap_remove {T = T} test (x ∷ xs) P all = by (position test (x ∷ xs))
  where
    by : (o : Option ℕ)
        → All P (option_map_or (λ i. swap_remove (x ∷ xs) i x) o (x ∷ xs))
    by None = all
    by (Some i) = All-take P _ _ (All-set P (x ∷ xs) i _
        (all (suc (length xs) - 1) x (last_below (length xs))) all)

module _ {T : Type 0} {eq : T → T → Bool} (laws : IsEquivalence eq) where
  -- If y equals q, it is what is found.
  abbrev Found : T → Option T → T → Type 0
  Found q o y = eq q y ≡ true → o ≡ Some y

  found_as : (q : T) (o : Option T) (ys : List T) → All (Found q o) ys
      → list_any (eq q) ys ≡ is_some o → find (eq q) ys ≡ o
  found_as q o [] all any = sym (none o (sym any))
  found_as q o (y ∷ ys) all any =
      by (eq q y) refl any (found_as q o ys (All-tail (Found q o) y ys all))
    where
      by : (b : Bool) → eq q y ≡ b → (b || list_any (eq q) ys) ≡ is_some o
          → (list_any (eq q) ys ≡ is_some o → find (eq q) ys ≡ o)
          → cond b (Some y) (find (eq q) ys) ≡ o
      by true same h later = sym (All-head (Found q o) y ys all same)
      by false apart h later = later h

  all_found : (q : T) (xs : List T) → IsDistinct eq xs → All (Found q (find (eq q) xs)) xs
  unfolding IsDistinct
  all_found q [] distinct = λ k d below. absurd (not_below_zero k below)
  all_found q (x ∷ xs) distinct =
      All-cons (Found q (find (eq q) (x ∷ xs))) x xs (λ same. rw same refl)
      (λ k d below same. by (slice_index_or xs k d) same
      (All-from_recursion (λ y. eq x y ≡ false) xs distinct.0 k d below)
      (all_found q xs distinct.1 k d below same))
    where
      by : (y : T) → eq q y ≡ true → eq x y ≡ false → find (eq q) xs ≡ Some y
          → cond (eq q x) (Some x) (find (eq q) xs) ≡ Some y
      by y same apart there = rw (laws.congr q y x same ∙ laws.symm y x ∙ apart) there

  in_front : (q x : T) (o : Option T)
      → cond (eq q x) (Some x) o ≡ cond (eq x q) (Some x) o
  in_front q x o = ap (λ b. cond b (Some x) o) (laws.symm q x)

  in_place : (q x y : T) (o : Option T) → eq x y ≡ true
      → cond (eq q x) (Some x) o ≡ cond (eq x q) (Some x) (cond (eq q y) (Some y) o)
  in_place q x y o same = in_front q x o ∙ by (eq x q) refl
    where
      by : (b : Bool) → eq x q ≡ b
          → cond b (Some x) o ≡ cond b (Some x) (cond (eq q y) (Some y) o)
      by true is = refl
      by false is = rw (laws.symm q y ∙ sym (laws.congr x y q same) ∙ is) refl

  behind : (q x y : T) (o : Option T) → eq x y ≡ false
      → cond (eq q y) (Some y) (cond (eq x q) (Some x) o)
      ≡ cond (eq x q) (Some x) (cond (eq q y) (Some y) o)
  behind q x y o apart = by (eq x q) refl
    where
      by : (b : Bool) → eq x q ≡ b
          → cond (eq q y) (Some y) (cond b (Some x) o)
          ≡ cond b (Some x) (cond (eq q y) (Some y) o)
      by true is = rw (sym (laws.congr x q y is) ∙ apart) refl
      by false is = refl

  -- x takes the place of the item that equals it.
  pub swapped : (x : T) (xs : List T) → list_any (eq x) xs ≡ true → (q : T)
      → find (eq q) (swap_key (eq x) xs x) ≡ cond (eq x q) (Some x) (find (eq q) xs)
  swapped x [] there q = absurd (true≢false (sym there))
  swapped x (y ∷ ys) there q = by (eq x y) refl there (λ h. swapped x ys h q)
    where
      by : (b : Bool) → eq x y ≡ b → (b || list_any (eq x) ys) ≡ true
          → (list_any (eq x) ys ≡ true → find (eq q) (swap_key (eq x) ys x)
          ≡ cond (eq x q) (Some x) (find (eq q) ys))
          → find (eq q) (cond b (x ∷ ys) (y ∷ swap_key (eq x) ys x))
          ≡ cond (eq x q) (Some x) (find (eq q) (y ∷ ys))
      by true same h later = in_place q x y _ same
      by false apart h later = ap (cond (eq q y) (Some y)) (later h) ∙ behind q x y _ apart

  -- The same, or x goes last.
  pub put : (x : T) (xs : List T) (q : T)
      → find (eq q) (put_in_place eq xs x) ≡ cond (eq x q) (Some x) (find (eq q) xs)
  put x [] q = in_front q x None
  put x (y ∷ ys) q = by (eq x y) refl (put x ys q)
    where
      by : (b : Bool) → eq x y ≡ b
          → find (eq q) (put_in_place eq ys x) ≡ cond (eq x q) (Some x) (find (eq q) ys)
          → find (eq q) (cond b (x ∷ ys) (y ∷ put_in_place eq ys x))
          ≡ cond (eq x q) (Some x) (find (eq q) (y ∷ ys))
      by true same later = in_place q x y _ same
      by false apart later = ap (cond (eq q y) (Some y)) later ∙ behind q x y _ apart

  -- x is somewhere among the others.
  pub added : (x : T) (xs ys : List T) → IsDistinct eq ys → IsPermutation (x ∷ xs) ys → (q : T)
      → find (eq q) ys ≡ cond (eq x q) (Some x) (find (eq q) xs)
  added x xs ys distinct moved q =
      sym (found_as q (find (eq q) ys) (x ∷ xs)
      (All-permutation (Found q (find (eq q) ys)) ys (x ∷ xs)
      (IsPermutation-sym (x ∷ xs) ys moved) (all_found q ys distinct))
      (list_any-IsPermutation (eq q) (x ∷ xs) ys moved ∙ sym (is_found (eq q) ys)))
      ∙ in_front q x _

  -- ys has only items of xs, and each but that which equals x.
  pub removed : (x : T) (xs ys : List T) → IsDistinct eq xs
      → ((P : T → Type 0) → All P xs → All P ys)
      → ((q : T) → list_any (eq q) ys ≡ cond (eq x q) false (list_any (eq q) xs)) → (q : T)
      → find (eq q) ys ≡ cond (eq x q) None (find (eq q) xs)
  removed x xs ys distinct part members q = by (eq x q) (members q)
    where
      by : (b : Bool) → list_any (eq q) ys ≡ cond b false (list_any (eq q) xs)
          → find (eq q) ys ≡ cond b None (find (eq q) xs)
      by true h = none _ (is_found (eq q) ys ∙ h)
      by false h =
          found_as q (find (eq q) xs) ys
          (part (Found q (find (eq q) xs)) (all_found q xs distinct))
          (h ∙ sym (is_found (eq q) xs))

module _ {T : Type 0} (cmp : T → T → Ordering) (laws : IsEquivalence (eq_by_cmp cmp)) where
  -- x stands at its place in the order, where it replaces an equal item.
  pub replaced : (x : T) (xs : List T) (q : T) → find (eq_by_cmp cmp q) (replace_key cmp xs x)
      ≡ cond (eq_by_cmp cmp x q) (Some x) (find (eq_by_cmp cmp q) xs)
  replaced x [] q = in_front laws q x None
  replaced x (y ∷ ys) q = by (cmp x y) refl (replaced x ys q)
    where
      by : (o : Ordering) → cmp x y ≡ o
          → find (eq_by_cmp cmp q) (replace_key cmp ys x)
          ≡ cond (eq_by_cmp cmp x q) (Some x) (find (eq_by_cmp cmp q) ys)
          → find (eq_by_cmp cmp q)
          (match_ordering o (x ∷ y ∷ ys) (x ∷ ys) (y ∷ replace_key cmp ys x))
          ≡ cond (eq_by_cmp cmp x q) (Some x) (find (eq_by_cmp cmp q) (y ∷ ys))
      by Less is later = in_front laws q x _
      by Equal is later = in_place laws q x y _ (ap is_eq is)
      by Greater is later =
          ap (cond (eq_by_cmp cmp q y) (Some y)) later ∙ behind laws q x y _ (ap is_eq is)

-- A new item replaces none.
pub inserted : {T : Type 0} (cmp : T → T → Ordering) (x : T) (xs : List T)
    → list_any (eq_by_cmp cmp x) xs ≡ false → insert_key cmp xs x ≡ replace_key cmp xs x
inserted cmp x [] absent = refl
inserted cmp x (y ∷ ys) absent = by (cmp x y) absent (inserted cmp x ys)
  where
    by : (o : Ordering) → (is_eq o || list_any (eq_by_cmp cmp x) ys) ≡ false
        → (list_any (eq_by_cmp cmp x) ys ≡ false → insert_key cmp ys x ≡ replace_key cmp ys x)
        → match_ordering o (x ∷ y ∷ ys) (y ∷ ys) (y ∷ insert_key cmp ys x)
        ≡ match_ordering o (x ∷ y ∷ ys) (x ∷ ys) (y ∷ replace_key cmp ys x)
    by Less h later = refl
    by Equal h later = absurd (true≢false h)
    by Greater h later = ap (λ l. y ∷ l) (later h)

-- Whether an item is new, by what is found.
pub says_found : {T E : Type 0} (test : T → Bool) (xs : List T) (r : Result Bool E)
    → IfOk r (λ b. b ≡ not (list_any test xs)) → IfOk r (λ b. b ≡ not (is_some (find test xs)))
says_found test xs (Ok b) h = h ∙ ap not (sym (is_found test xs))
says_found test xs (Err e) h = h

-- What a change says of membership and of length gives what the clauses of the trait say.
module _ {T : Type 0} (eq : T → T → Bool) (x : T) (xs ys : List T) where
  abbrev PutsFound : Type 0
  PutsFound = (q : T) → find (eq q) ys ≡ cond (eq x q) (Some x) (find (eq q) xs)

  new_added : true ≡ not (list_any (eq x) xs) → PutsFound → length ys ≡ length xs + 1
      → Adds eq xs x ys
  new_added new finds len = by (find (eq x) xs) refl (is_found (eq x) xs)
    where
      by : (o : Option T) → find (eq x) xs ≡ o → is_some o ≡ list_any (eq x) xs
          → MatchOption o (Puts eq xs x ys) (λ _. ys ≡ xs)
      by None absent h = (finds, rw absent len)
      by (Some y) there h = absurd (true≢false (new ∙ ap not (sym h)))

  not_added : false ≡ not (list_any (eq x) xs) → ys ≡ xs → Adds eq xs x ys
  not_added old same = by (find (eq x) xs) (is_found (eq x) xs)
    where
      by : (o : Option T) → is_some o ≡ list_any (eq x) xs
          → MatchOption o (Puts eq xs x ys) (λ _. ys ≡ xs)
      by None h = absurd (true≢false (sym (old ∙ ap not (sym h))))
      by (Some y) h = same

  puts : (old : Option T) → old ≡ find (eq x) xs → PutsFound
      → length ys ≡ length xs + (if is_some old then 0 else 1) → Puts eq xs x ys
  puts old is finds len =
      (finds, len ∙ ap (λ o. length xs + (if is_some o then 0 else 1)) is)

  pub discards : (was : Bool) (left changes : Type 0)
      → RemovesFoundUnlessLast (list_any (eq x) xs ≡ false) xs ys was left
      → OnTrue was changes
      → (left → changes → (q : T) → find (eq q) ys ≡ cond (eq x q) None (find (eq q) xs))
      → length ys + (if was then 1 else 0) ≡ length xs → Discards eq xs x was ys
  discards was left changes says changed finds len = (
    (λ stays. to_find (says.0.0 stays), λ either. says.0.1 (to_any either)),
    by was says.1 changed len,
  )
    where
      to_find : (list_any (eq x) xs ≡ false) ⊎ (length xs ≡ 1)
          → (find (eq x) xs ≡ None) ⊎ (length xs ≡ 1)
      to_find (inl absent) = inl (none _ (is_found (eq x) xs ∙ absent))
      to_find (inr only) = inr only

      to_any : (find (eq x) xs ≡ None) ⊎ (length xs ≡ 1)
          → (list_any (eq x) xs ≡ false) ⊎ (length xs ≡ 1)
      to_any (inl absent) = inl (sym (is_found (eq x) xs) ∙ ap is_some absent)
      to_any (inr only) = inr only

      by : (b : Bool) → MatchBool b left (ys ≡ xs) → OnTrue b changes
          → length ys + (if b then 1 else 0) ≡ length xs
          → MatchBool b (Removes eq xs x ys) (ys ≡ xs)
      by true h changes len = (finds h changes, len)
      by false h changes len = h

module _ {T E : Type 0} {eq : T → T → Bool} (laws : IsEquivalence eq) (x : T) (xs ys : List T) where
  abbrev Says : Result Bool E → Type 0
  Says r = IfOk r (λ b. b ≡ not (list_any (eq x) xs))

  abbrev Counts : Result Bool E → Type 0
  Counts r = IfOk r (λ b. length ys ≡ length xs + (if b then 1 else 0))

  pub hashed_adds : (r : Result Bool E) → IsDistinct eq ys → Says r
      → IfOk r (λ b. MatchBool b (IsPermutation (x ∷ xs) ys) (ys ≡ xs)) → Counts r
      → OnOk r (Adds eq xs x ys)
  hashed_adds (Ok true) distinct is keys len =
      new_added eq x xs ys is (added laws x xs ys distinct keys) len
  hashed_adds (Ok false) distinct is keys len = not_added eq x xs ys is keys
  hashed_adds (Err e) distinct is keys len = tt

  pub indexed_adds : (r : Result Bool E) → IsDistinct eq ys → Says r
      → IfOk r (λ b. OnTrue b (ys ≡ xs ++ x ∷ [])) → IfOk r (λ b. OnFalse b (ys ≡ xs)) → Counts r
      → OnOk r (Adds eq xs x ys)
  indexed_adds (Ok true) distinct is last kept len =
      new_added eq x xs ys is
      (added laws x xs ys distinct (rw last (IsPermutation-sym (xs ++ x ∷ []) (x ∷ xs)
      (IsPermutation-to_front xs x)))) len
  indexed_adds (Ok false) distinct is last kept len = not_added eq x xs ys is kept
  indexed_adds (Err e) distinct is last kept len = tt

  abbrev SaysOld : Result (Option T) E → Type 0
  SaysOld r = IfOk r (λ old. old ≡ find (eq x) xs)

  abbrev CountsOld : Result (Option T) E → Type 0
  CountsOld r = IfOk r (λ old. length ys ≡ length xs + (if is_some old then 0 else 1))

  pub hashed_puts : (r : Result (Option T) E) → IsDistinct eq ys → SaysOld r
      → IfOk r (λ old. MatchOption old (IsPermutation (x ∷ xs) ys)
      (λ _. ys ≡ swap_key (eq x) xs x)) → CountsOld r → OnOk r (Puts eq xs x ys)
  hashed_puts (Ok None) distinct is keys len =
      puts eq x xs ys None is (added laws x xs ys distinct keys) len
  hashed_puts (Ok (Some y)) distinct is keys len =
      puts eq x xs ys (Some y) is (λ q. ap (find (eq q)) keys
      ∙ swapped laws x xs (sym (is_found (eq x) xs) ∙ sym (ap is_some is)) q) len
  hashed_puts (Err e) distinct is keys len = tt

  pub indexed_puts : (r : Result (Option T) E) → SaysOld r → OnOk r (ys ≡ put_in_place eq xs x)
      → CountsOld r → OnOk r (Puts eq xs x ys)
  indexed_puts (Ok old) is keys len =
      puts eq x xs ys old is (λ q. ap (find (eq q)) keys ∙ put laws x xs q) len
  indexed_puts (Err e) is keys len = tt

module _ {T E : Type 0} (cmp : T → T → Ordering) (laws : IsEquivalence (eq_by_cmp cmp)) (x : T)
    (xs ys : List T) where
  pub tree_adds : (r : Result Bool E)
      → IfOk r (λ b. b ≡ not (list_any (eq_by_cmp cmp x) xs))
      → OnOk r (ys ≡ insert_key cmp xs x) → IfOk r (λ b. OnFalse b (ys ≡ xs))
      → IfOk r (λ b. length ys ≡ length xs + (if b then 1 else 0))
      → OnOk r (Adds (eq_by_cmp cmp) xs x ys)
  tree_adds (Ok true) is keys kept len =
      new_added (eq_by_cmp cmp) x xs ys is (λ q. ap (find (eq_by_cmp cmp q))
      (keys ∙ inserted cmp x xs (absent _ is)) ∙ replaced cmp laws x xs q) len
    where
      absent : (b : Bool) → true ≡ not b → b ≡ false
      absent true h = h
      absent false h = refl
  tree_adds (Ok false) is keys kept len = not_added (eq_by_cmp cmp) x xs ys is kept
  tree_adds (Err e) is keys kept len = tt

  pub tree_puts : (r : Result (Option T) E)
      → IfOk r (λ old. old ≡ find (eq_by_cmp cmp x) xs) → OnOk r (ys ≡ replace_key cmp xs x)
      → IfOk r (λ old. length ys ≡ length xs + (if is_some old then 0 else 1))
      → OnOk r (Puts (eq_by_cmp cmp) xs x ys)
  tree_puts (Ok old) is keys len =
      puts (eq_by_cmp cmp) x xs ys old is
      (λ q. ap (find (eq_by_cmp cmp q)) keys ∙ replaced cmp laws x xs q) len
  tree_puts (Err e) is keys len = tt
