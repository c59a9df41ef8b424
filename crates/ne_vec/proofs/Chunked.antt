-- The chunks of a list: the first one, and those of the items after it.
use Rattle.std.proofs.Common.{◌≡◌, ℕ, zero, suc, ◌+◌, ◌-◌, ◌*◌, ◌/◌, ◌<◌, ◌≤◌, List, [], ◌∷◌, ◌++◌}
use Rattle.std.proofs.Common.{map, length, take, drop, min, refl, sym, ap, ◌∙◌, arith, inl, inr}
use Rattle.std.proofs.Common.{add-one, zero-mul}
use Rattle.std.specs.List.{range_with_len, AllByRecursion}
use Rattle.std.specs.Slice.Iter.{chunk_count}
use Rattle.std.proofs.iter.Counts.{parts_up}
use Rattle.std.proofs.Math.Nat.{add-div_right, div-eq_of_lt, le-div_iff_mul-le}
use Rattle.std.proofs.lemmas.Bool.{cases_lt}
use Rattle.std.proofs.Math.Seq.{take-append_seam, drop-append_seam}
use Rattle.std.proofs.Math.ListN.{drop_of_length-le}
use Rattle.std.specs.Option.{option_map}
use Rattle.std.specs.Prelude.{◌↔◌, slice_get, Some}
use Rattle.std.proofs.lemmas.Option.{slice_get-map}
use Rattle.std.proofs.lemmas.List.FromFn.{length-map-range_with_len}
use Rattle.std.proofs.lemmas.List.{drop-drop, length-drop, length-take, length-append, append-nil}
use Rattle.std.proofs.lemmas.List.{take-append-drop}
use Rattle.ne_vec.specs.Divisions.{concat}
use Rattle.ne_vec.specs.Chunks.{chunk, chunks}
use Rattle.ne_vec.specs.DivisionLaws.{nil_is_no_append, head_is, tail_is}

no_items : {X : Type 0} (xs : List X) → length xs ≡ 0 → xs ≡ []
no_items [] e = refl
no_items (x ∷ xs) e = absurd (Prim.omega (arith, e))

-- ---- the number of chunks

pub chunks_counted : {X : Type 0} (n : ℕ) (xs : List X)
    → length (chunks n xs) ≡ chunk_count (length xs) n
chunks_counted n xs = length-map-range_with_len (chunk n xs) 0 (chunk_count (length xs) n)

-- There is a chunk j exactly if there is an item at j * n.
pub chunk_there : {X : Type 0} (n : ℕ) (xs : List X) (j : ℕ) → 0 < n
    → ((j < length (chunks n xs)) ↔ (j * n < length xs))
chunk_there n xs j p =
    let counted : length (chunks n xs) ≡ (length xs + n - 1) / n = chunks_counted n xs
    ∙ parts_up (length xs) n p in
    let divides : (j + 1 ≤ (length xs + n - 1) / n) ↔
    ((j + 1) * n ≤ length xs + n - 1) = le-div_iff_mul-le p in
    let one_further : (j + 1) * n ≡ j * n + n = Prim.omega arith in (
      λ h. let fits = divides.0 (Prim.omega (arith, h, counted)) in
          Prim.omega (arith, fits, one_further, p),
      λ h. let there = divides.1 (Prim.omega (arith, h, one_further, p)) in
          Prim.omega (arith, there, counted),
    )

at_range : (n a j : ℕ) → j < n → slice_get (range_with_len a n) j ≡ Some (a + j)
at_range zero a j p = absurd (Prim.omega (arith, p))
at_range (suc n) a zero p = ap Some (Prim.omega arith)
at_range (suc n) a (suc j) p = at_range n (a + 1) j (Prim.omega (arith, p))
    ∙ ap Some (Prim.omega arith)

pub chunk_is : {X : Type 0} (n : ℕ) (xs : List X) (j : ℕ) → j < length (chunks n xs)
    → slice_get (chunks n xs) j ≡ Some (chunk n xs j)
chunk_is n xs j h =
    let count : j < chunk_count (length xs) n = Prim.omega (arith, h, chunks_counted n xs) in
    slice_get-map (chunk n xs) (range_with_len 0 (chunk_count (length xs) n)) j
    ∙ ap (option_map (chunk n xs)) (at_range (chunk_count (length xs) n) 0 j count)
    ∙ ap (λ k. Some (chunk n xs k)) (Prim.omega arith)

none_of_none : (n : ℕ) → 0 < n → chunk_count 0 n ≡ 0
none_of_none n p = parts_up 0 n p ∙ div-eq_of_lt (Prim.omega (arith, p))

-- If there is an item, there is one chunk more than of the items after the first n.
one_more : (n m : ℕ) → 0 < n → 0 < m → chunk_count m n ≡ suc (chunk_count (m - n) n)
one_more n m p q =
    let split : m + n - 1 ≡ (m - 1) + n = Prim.omega (arith, p, q) in
    let behind : (m - 1) / n ≡ (m - n + n - 1) / n =
    elim (cases_lt m n) [
      | inl h ↦ div-eq_of_lt (Prim.omega (arith, h, p, q))
          ∙ sym (div-eq_of_lt (Prim.omega (arith, h, p)))
      | inr h ↦ ap (λ k. k / n) (Prim.omega (arith, h, p, q))
    ] in
    parts_up m n p ∙ ap (λ k. k / n) split ∙ add-div_right (m - 1) p ∙ add-one _
    ∙ ap suc (behind ∙ sym (parts_up (m - n) n p))

-- ---- the first chunk

next_chunk : {X : Type 0} (n : ℕ) (xs : List X) (j : ℕ) → chunk n xs (j + 1) ≡ chunk n (drop n xs) j
next_chunk n xs j =
    let one_further : (j + 1) * n ≡ n + j * n = Prim.omega arith in
    ap (λ k. take n (drop k xs)) one_further ∙ ap (take n) (sym (drop-drop (j * n) n xs))

shifted : {X : Type 0} (n : ℕ) (xs : List X) (c a : ℕ)
    → map (chunk n xs) (range_with_len (a + 1) c) ≡ map (chunk n (drop n xs)) (range_with_len a c)
shifted n xs zero a = refl
shifted n xs (suc c) a =
    ap (λ y. y ∷ map (chunk n xs) (range_with_len (a + 1 + 1) c)) (next_chunk n xs a)
    ∙ ap (λ ys. chunk n (drop n xs) a ∷ ys) (shifted n xs c (a + 1))

pub chunks_step : {X : Type 0} (n : ℕ) (xs : List X) → 0 < n → 0 < length xs
    → chunks n xs ≡ take n xs ∷ chunks n (drop n xs)
chunks_step n xs p q =
    ap (λ c. map (chunk n xs) (range_with_len 0 c)) (one_more n (length xs) p q)
    ∙ ap (λ k. take n (drop k xs) ∷ map (chunk n xs)
    (range_with_len (0 + 1) (chunk_count (length xs - n) n))) (zero-mul n)
    ∙ ap (λ ys. take n xs ∷ ys) (shifted n xs (chunk_count (length xs - n) n) 0)
    ∙ ap (λ m. take n xs ∷ map (chunk n (drop n xs)) (range_with_len 0 (chunk_count m n)))
    (sym (length-drop n xs))

pub chunks_none : {X : Type 0} (n : ℕ) (xs : List X) → 0 < n → length xs ≡ 0 → chunks n xs ≡ []
chunks_none n xs p e = ap (λ m. map (chunk n xs) (range_with_len 0 (chunk_count m n))) e
    ∙ ap (λ c. map (chunk n xs) (range_with_len 0 c)) (none_of_none n p)

whole : {X : Type 0} (n : ℕ) (xs : List X) → length xs ≤ n → take n xs ≡ xs
whole n xs h = sym (append-nil (take n xs)) ∙ ap (λ ys. take n xs ++ ys)
    (sym (drop_of_length-le xs h)) ∙ take-append-drop n xs

-- Std's iterator cuts off the first chunk, and has the others left.
pub first_chunk : {X : Type 0} (n m : ℕ) (xs part left : List X) → 0 < n → m ≡ n → 0 < length xs
    → xs ≡ part ++ left → length part ≡ min n (length xs) → chunks n xs ≡ part ∷ chunks m left
first_chunk n m xs part left p same q e l =
    let lens : length xs ≡ length part + length left = ap length e ∙ length-append part left in
    let prefix : take n xs ≡ part =
    elim (cases_lt (length xs) n) [
      | inl h ↦ whole n xs (Prim.omega (arith, h)) ∙ e
          ∙ ap (λ ys. part ++ ys) (no_items left (Prim.omega (arith, l, h, lens))) ∙ append-nil part
      | inr h ↦ ap (take n) e ∙ ap (λ k. take k (part ++ left)) (Prim.omega (arith, l, h))
          ∙ take-append_seam part left
    ] in
    let back : drop n xs ≡ left =
    elim (cases_lt (length xs) n) [
      | inl h ↦ drop_of_length-le xs (Prim.omega (arith, h))
          ∙ sym (no_items left (Prim.omega (arith, l, h, lens)))
      | inr h ↦ ap (drop n) e ∙ ap (λ k. drop k (part ++ left)) (Prim.omega (arith, l, h))
          ∙ drop-append_seam part left
    ] in
    chunks_step n xs p q ∙ ap (λ y. y ∷ chunks n (drop n xs)) prefix
    ∙ ap (λ ys. part ∷ chunks n ys) back ∙ ap (λ k. part ∷ chunks k left) (sym same)

-- ---- all chunks

joined_up_to : {X : Type 0} (m n : ℕ) (xs : List X) → 0 < n → length xs ≤ m
    → concat (chunks n xs) ≡ xs
joined_up_to m n [] p h = ap concat (chunks_none n [] p refl)
joined_up_to zero n (x ∷ xs) p h = absurd (Prim.omega (arith, h))
joined_up_to (suc m) n (x ∷ xs) p h =
    ap concat (chunks_step n (x ∷ xs) p (Prim.omega arith))
    ∙ ap (λ ys. take n (x ∷ xs) ++ ys) (joined_up_to m n (drop n (x ∷ xs)) p
    (Prim.omega (arith, length-drop n (x ∷ xs), h, p)))
    ∙ take-append-drop n (x ∷ xs)

pub chunks_joined : {X : Type 0} (n : ℕ) (xs : List X) → 0 < n → concat (chunks n xs) ≡ xs
chunks_joined n xs p = joined_up_to (length xs) n xs p (Prim.omega arith)

abbrev Fits : {X : Type 0} → ℕ → List (List X) → List X → Type 0
Fits n prefix last = AllByRecursion (λ c. length c ≡ n) prefix × (0 < length last)
    × (length last ≤ n)

fits_up_to : {X : Type 0} (m n : ℕ) (xs : List X) (prefix : List (List X)) (last : List X) → 0 < n
    → length xs ≤ m → chunks n xs ≡ prefix ++ last ∷ [] → Fits n prefix last
fits_up_to m n [] prefix last p h e = absurd (nil_is_no_append prefix last []
    (sym (chunks_none n [] p refl) ∙ e))
fits_up_to zero n (x ∷ xs) prefix last p h e = absurd (Prim.omega (arith, h))
fits_up_to (suc m) n (x ∷ xs) [] last p h e =
    let first : take n (x ∷ xs) ≡ last = head_is
    (sym (chunks_step n (x ∷ xs) p (Prim.omega arith)) ∙ e) in
    let len : length last ≡ min n (suc (length xs)) = ap length (sym first)
    ∙ length-take n (x ∷ xs) in
    (tt, Prim.omega (arith, len, p), Prim.omega (arith, len))
fits_up_to (suc m) n (x ∷ xs) (c ∷ prefix) last p h e =
    let both = sym (chunks_step n (x ∷ xs) p (Prim.omega arith)) ∙ e in
    let rest : chunks n (drop n (x ∷ xs)) ≡ prefix ++ last ∷ [] = tail_is both in
    let later : Fits n prefix last = fits_up_to m n (drop n (x ∷ xs)) prefix last p
    (Prim.omega (arith, length-drop n (x ∷ xs), h, p)) rest in
    let some : 0 < length (drop n (x ∷ xs)) =
    elim (cases_lt 0 (length (drop n (x ∷ xs)))) [
      | inl k ↦ k
      | inr k ↦ absurd (nil_is_no_append prefix last []
          (sym (chunks_none n (drop n (x ∷ xs)) p (Prim.omega (arith, k))) ∙ rest))
    ] in
    let len : length c ≡ min n (suc (length xs)) = ap length (sym (head_is both))
    ∙ length-take n (x ∷ xs) in
    ((Prim.omega (arith, len, some, length-drop n (x ∷ xs)), later.0), later.1, later.2)

pub chunks_fit : {X : Type 0} (n : ℕ) (xs : List X) (prefix : List (List X)) (last : List X) → 0 < n
    → chunks n xs ≡ prefix ++ last ∷ [] → Fits n prefix last
chunks_fit n xs prefix last p e = fits_up_to (length xs) n xs prefix last p (Prim.omega arith) e
