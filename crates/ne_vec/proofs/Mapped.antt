-- The loop of `map_in_place`: that the closure may be called with each item in turn, and what the
-- calls together return.
use Rattle.std.proofs.Common.{◌≡◌, refl, sym, ap, subst, ◌∙◌, ℕ, suc, ◌+◌, ◌<◌, ◌≤◌, List, []}
use Rattle.std.proofs.Common.{◌∷◌, ◌++◌, map, length, get_or, set, arith, append_assoc}
use Rattle.std.proofs.Math.Seq.{get_or-append_seam, set-append_seam}
use Rattle.std.proofs.lemmas.List.{length-append, get_or_default}
use Rattle.std.specs.Prelude.{⊤, All, Contains}
use Rattle.std.specs.Fn.{Mut, Called, Takes}
use Rattle.std.specs.Iterator.{ActsAs}
use Rattle.ne_vec.specs.Calls.{Calls}
use Rattle.ne_vec.specs.Searches.{CallableOnItems}
use Rattle.std.proofs.lemmas.List.Elements.{All-cons}

module _ {F A : Type 0} (calls : Mut F (A × Unit {0}) A) where
  -- f may be called with the items of xs in turn.
  abbrev pub Each : F → List A → Type 0
  Each f [] = ⊤
  Each f (x ∷ xs) = Takes calls f (x, tt)
      × ((y : A) (g : F) → Called calls f (x, tt) y g → Each g xs)

  part_in_turn : (all xs : List A) (f : F) → All (Contains all) xs → CallableOnItems calls f all
      → Each f xs
  part_in_turn all [] f among callable = tt
  part_in_turn all (x ∷ xs) f among callable =
      let here = among 0 x (omega arith) in (
        subst (λ y. Takes calls f (y, tt)) here.2
            (callable.at [] f (λ k d h. absurd (omega arith)) refl here.0 x here.1),
        λ y g called. part_in_turn all xs g (λ k d h. among (suc k) d (omega arith)) (record {
          at = λ shown h inside folds. callable.at (x ∷ shown) h
              (All-cons (Contains all) x shown here inside) (g, (y, called), folds);
        }),
      )

  -- After i turns: what f returns for the items that are left completes the results.
  pub record Turn (first : F) (xs : List A) (f : F) (items : List A) (i : ℕ) : Type 0 where
    pub done : List A
    pub left : List A
    pub split : items ≡ done ++ left
    pub count : length done ≡ i
    pub callable : Each f left
    pub completes : (ys : List A) (g : F) → Calls calls f left ys g
        → Calls calls first xs (done ++ ys) g

  pub begun : (f : F) (xs : List A) → CallableOnItems calls f xs → Turn f xs f xs 0
  begun f xs callable = record {
    done = [];
    left = xs;
    split = refl;
    count = refl;
    callable = part_in_turn xs xs f
        (λ k d h. (k, h, get_or_default xs k (get_or xs k d) d h)) callable;
    completes = λ ys g all. all;
  }

  module _ (first : F) (xs : List A) (f : F) where
    takes : (done left : List A) (d : A) → length done < length (done ++ left) → Each f left
        → Takes calls f (get_or (done ++ left) (length done) d, tt)
    takes done [] d within callable = absurd (omega (arith, within, length-append done []))
    takes done (x ∷ left) d within callable =
        rw (get_or-append_seam done x left d) callable.0

    next : (done left : List A) (d y : A) (g : F) → length done < length (done ++ left)
        → Each f left
        → ((ys : List A) (h : F) → Calls calls f left ys h → Calls calls first xs (done ++ ys) h)
        → Called calls f (get_or (done ++ left) (length done) d, tt) y g
        → Turn first xs g (set (done ++ left) (length done) y) (length done + 1)
    next done [] d y g within callable completes called =
        absurd (omega (arith, within, length-append done []))
    next done (x ∷ left) d y g within callable completes called =
        let called' = subst (λ z. Called calls f (z, tt) y g) (get_or-append_seam done x left d)
        called in
        record {
          done = done ++ y ∷ [];
          left = left;
          split = set-append_seam done x left y ∙ sym (append_assoc done (y ∷ []) left);
          count = length-append done (y ∷ []);
          callable = callable.1 y g called';
          completes = λ ys h more. subst (λ l. Calls calls first xs l h)
              (sym (append_assoc done (y ∷ []) ys)) (completes (y ∷ ys) h (g, called', more));
        }

    over : (done left : List A) → length (done ++ left) ≤ length done
        → ((ys : List A) (h : F) → Calls calls f left ys h → Calls calls first xs (done ++ ys) h)
        → (h : F) × Calls calls first xs (done ++ left) h
    over done [] end completes = (f, completes [] f refl)
    over done (x ∷ left) end completes =
        absurd (omega (arith, end, length-append done (x ∷ left)))

    module _ (items : List A) (i : ℕ) (turn : Turn first xs f items i) where
      pub takes_now : (d : A) → i < length items → Takes calls f (get_or items i d, tt)
      takes_now d within =
          rw (turn.split, ← turn.count) (takes turn.done turn.left d
          (rw (turn.count, ← turn.split) within) turn.callable)

      pub next_turn : (d y : A) (g : F) → i < length items
          → Called calls f (get_or items i d, tt) y g → Turn first xs g (set items i y) (i + 1)
      next_turn d y g within called =
          rw (turn.split, ← turn.count) (next turn.done turn.left d y g
          (rw (turn.count, ← turn.split) within) turn.callable turn.completes
          (rw (turn.count, ← turn.split) called))

      pub all_called : length items ≤ i → (h : F) × Calls calls first xs items h
      all_called end =
          rw (turn.split) (over turn.done turn.left (rw (turn.count, ← turn.split) end)
          turn.completes)

  -- The results of calls of a function are those of the function.
  pub are_mapped : (f : F) (xs ys : List A) (g : F) (h : A → A) → ActsAs calls f h
      → Calls calls f xs ys g → ys ≡ map h xs
  are_mapped f [] [] g h acts same = refl
  are_mapped f [] (y ∷ ys) g h acts none = absurd none
  are_mapped f (x ∷ xs) [] g h acts none = absurd none
  are_mapped f (x ∷ xs) (y ∷ ys) g h acts (f', called, more) =
      let is = acts x y f' called in
      ap (λ z. z ∷ ys) is.1 ∙ ap (λ l. h x ∷ l)
      (are_mapped f xs ys g h acts (subst (λ k. Calls calls k xs ys g) is.0 more))
