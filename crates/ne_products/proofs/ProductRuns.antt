-- What a run of a product's iterator says about the runs of its sides.
use Rattle.std.proofs.Common.{rules, arith, subst, sym, inl, inr, refl, true≢false, ◌∙◌}
use Rattle.std.proofs.lemmas.Bool.{MatchBool-at_true, MatchBool-at_false}
use Rattle.std.proofs.lemmas.Option.{MatchOption-at_none, MatchOption-at_some, none-some}
use Rattle.std.specs.Prelude.{◌≡◌, Bool, true, false, ◌&&◌, List, [], ◌∷◌, ◌++◌, map, length}
use Rattle.std.specs.Prelude.{Option, Some, None, MatchOption, Result, Ok, Err, is_ok}
use Rattle.std.specs.Iterator.{DrainsIf, Yields}
use Rattle.std.specs.List.{list_all}
use Rattle.ne_iter.specs.Sources.{HasFirst, Reads}
use Rattle.ne_products.specs.Pairs.{pairs_by_row, ClonedPairs, ReadsRows}
use Rattle.ne_products.specs.Product.{left_of, right_of, row_of, restart_of, is_exhausted}
use Rattle.ne_products.specs.Product.{IsRowItem, EndsRow, GivesPair, EndsPairs, PairsNext}
use Rattle.ne_products.specs.Product.{RefusesClone}
use Rattle.ne_products.specs.declared.products.ProductIter.{ProductIter}

both_true : (a b : Bool) → (a && b) ≡ true → (a ≡ true) × (b ≡ true)
both_true true b e = (refl, e)
both_true false b e = let e = e in search rules

and_false : (a : Bool) → (a && false) ≡ false
and_false true = refl
and_false false = refl

same_item : {A : Type 0} {x y : A} → Some x ≡ Some y → x ≡ y
same_item e = search rules

module _ {I J A B : Type 0} (E refused : Type 0) (lefts : I → Option A → I → Type 0)
    (rights : J → Option B → J → Type 0) (clones : A → A → Type 0) (infallible : A → Type 0)
    (copies : J → J → Type 0) (certain : J → Type 0) (from : J → Type 0) (whole : Bool) where
  abbrev State : Type 0
  State = ProductIter I J A

  abbrev Next : State → Option (Result (A × B) E) → State → Type 0
  Next = PairsNext lefts rights clones infallible copies certain

  abbrev Ends : State → Type 0
  Ends = EndsPairs lefts rights clones infallible copies certain

  abbrev Pair : State → A × B → State → Type 0
  Pair = GivesPair lefts rights clones infallible copies certain

  abbrev Of : State → A → I → Type 0
  Of = IsRowItem lefts

  abbrev Refuses : State → Type 0
  Refuses = RefusesClone lefts rights clones infallible copies certain

  abbrev Cloned : List (A × B) → List (Result (A × B) E) → Type 0
  Cloned = ClonedPairs clones infallible refused

  abbrev Row : Bool → J → List B → Type 0
  Row = Reads (λ j k. k ≡ j) rights

  -- Whether both sides have ended after the results zs.
  abbrev ended : List (Result (A × B) E) → Bool
  ended zs = whole && list_all is_ok zs

  -- A clone for a further row is one of those read and has an item; `refused` holds if it can fail.
  abbrev Ready : State → Type 0
  Ready s = MatchOption (restart_of s) refused (λ c. ((certain c → ⊥) → refused)
      × ((d : J) → copies c d → from d × HasFirst rights d))

  -- The right side r yields what is left of this row, bs, and the further rows are read.
  abbrev Rows : Bool → J → List B → List (List B) → Type 0
  Rows w r bs [] = DrainsIf rights (w ≡ true) r bs
  Rows w r bs (next ∷ rows) =
      DrainsIf rights (true ≡ true) r bs × ReadsRows Row from w (next ∷ rows)

  rows_from : (w : Bool) (r : J) (bs : List B) (rows : List (List B)) → from r → Rows w r bs rows
      → ReadsRows Row from w (bs ∷ rows)
  rows_from w r bs [] origin rest = (r, origin, record { it = r; made = refl; given = rest })
  rows_from w r bs (next ∷ rows) origin rest =
      ((r, origin, record { it = r; made = refl; given = rest.0 }), rest.1)

  rows_before : (w : Bool) (r k : J) (b : B) (bs : List B) (rows : List (List B))
      → rights r (Some b) k → Rows w k bs rows → Rows w r (b ∷ bs) rows
  rows_before w r k b bs [] st rest = (rest.0, (k, st, rest.1), rest.2)
  rows_before w r k b bs (next ∷ rows) st rest = ((rest.0.0, (k, st, rest.0.1), rest.0.2), rest.1)

  abbrev pairs : A → List B → List A → List (List B) → List (A × B)
  pairs x bs xs rows = map (λ b. (x, b)) bs ++ pairs_by_row xs rows

  -- The results zs follow in the row of x, if the sides are at l and r.
  abbrev InRow : A → J → I → List (Result (A × B) E) → Type 0
  InRow x r l zs = (bs : List B) × (xs : List A) × (rows : List (List B))
      × (length rows ≡ length xs) × DrainsIf lefts (ended zs ≡ true) l xs
      × Rows (ended zs) r bs rows
      × Cloned (pairs x bs xs rows) zs
      × (ended zs ≡ true → length zs ≡ length (pairs x bs xs rows))

  -- The results zs follow before the first row, if the left side is at l.
  abbrev Came : I → List (Result (A × B) E) → Type 0
  Came l zs = (xs : List A) × (rows : List (List B)) × (length rows ≡ length xs)
      × DrainsIf lefts (ended zs ≡ true) l xs × ReadsRows Row from (ended zs) rows
      × Cloned (pairs_by_row xs rows) zs
      × (ended zs ≡ true → length zs ≡ length (pairs_by_row xs rows))

  -- An `Err` follows in the row of x, if the sides are at l and r.
  abbrev Stops : A → J → I → E → Type 0
  Stops x r l e = (bs : List B) × (xs : List A) × (rows : List (List B)) × (length rows ≡ length xs)
      × (u : I) × Yields lefts l xs u × Rows false r bs rows
      × Cloned (pairs x bs xs rows) (Err e ∷ [])

  unended : (whole && false) ≡ true → ⊥
  unended w = true≢false (sym w ∙ and_false whole)

  silent : (W : Type 0) (s : State) (zs : List (Result (A × B) E)) → is_exhausted s ≡ true
      → DrainsIf Next W s zs → zs ≡ []
  silent W s [] over run = refl
  silent W s (z ∷ zs) over (t, (j, st, rest), fin) =
      absurd (none-some z (sym (MatchBool-at_true _ _ over st).0))

  stopped : (j : State) (x : A) (r : J) (l : I) (e : E) (zs : List (Result (A × B) E))
      → is_exhausted j ≡ true → DrainsIf Next (whole ≡ true) j zs → Stops x r l e
      → InRow x r l (Err e ∷ zs)
  stopped j x r l e zs over run at = (
    at.0,
    at.1,
    at.2,
    at.3,
    (at.4, at.5, λ w. absurd (unended w)),
    subst (λ w. Rows w r at.0 at.2) (sym (and_false whole)) at.6,
    subst (λ q. Cloned (pairs x at.0 at.1 at.2) (Err e ∷ q)) (sym (silent _ j zs over run)) at.7,
    λ w. absurd (unended w),
  )

  -- A clone of the right side fails.
  side_stops : (x : A) (r : J) (l : I) (e : E) → refused → Stops x r l e
  side_stops x r l e bad = (
    [],
    [],
    [],
    refl,
    l,
    refl,
    (r, refl, λ w. absurd (true≢false (sym w))),
    (refl, bad),
  )

  -- The clone of x for a pair with b fails.
  item_stops : (x : A) (r k : J) (b : B) (l : I) (e : E) → rights r (Some b) k
      → (infallible x → ⊥) → Stops x r l e
  item_stops x r k b l e st bad = (
    b ∷ [],
    [],
    [],
    refl,
    l,
    refl,
    (k, (k, st, refl), λ w. absurd (true≢false (sym w))),
    (refl, inl bad),
  )

  -- The row of w is the next one after that of x.
  next_stops : (x w : A) (r j d : J) (l u : I) (e : E) → rights r None j → from d
      → lefts l (Some w) u → Stops w d u e → Stops x r l e
  next_stops x w r j d l u e none origin st at = (
    [],
    w ∷ at.1,
    at.0 ∷ at.2,
    omega (arith, at.3),
    at.4,
    (u, st, at.5),
    ((r, refl, λ _. (j, none)), rows_from false d at.0 at.2 origin at.6),
    at.7,
  )

  next_row : (x w : A) (r j d : J) (l u : I) (zs : List (Result (A × B) E)) → rights r None j
      → from d → lefts l (Some w) u → InRow w d u zs → InRow x r l zs
  next_row x w r j d l u zs none origin st came = (
    [],
    w ∷ came.1,
    came.0 ∷ came.2,
    omega (arith, came.3),
    (came.4.0, (u, st, came.4.1), came.4.2),
    ((r, refl, λ _. (j, none)), rows_from (ended zs) d came.0 came.2 origin came.5),
    came.6,
    came.7,
  )

  first_row : (w : A) (r : J) (l u : I) (zs : List (Result (A × B) E)) → from r
      → lefts l (Some w) u → InRow w r u zs → Came l zs
  first_row w r l u zs origin st came = (
    w ∷ came.1,
    came.0 ∷ came.2,
    omega (arith, came.3),
    (came.4.0, (u, st, came.4.1), came.4.2),
    rows_from (ended zs) r came.0 came.2 origin came.5,
    came.6,
    came.7,
  )

  more : (x : A) (r k : J) (l : I) (p : A × B) (zs : List (Result (A × B) E)) → clones x p.0
      → rights r (Some p.1) k → InRow x k l zs → InRow x r l (Ok p ∷ zs)
  more x r k l p zs same st came = (
    p.1 ∷ came.0,
    came.1,
    came.2,
    came.3,
    came.4,
    rows_before (ended zs) r k p.1 came.0 came.2 st came.5,
    (same, refl, came.6),
    λ w. omega (arith, came.7 w),
  )

  none_ready : (s : State) → Ready s → restart_of s ≡ None → refused
  none_ready s ready none = MatchOption-at_none _ _ none ready

  row_refused : (s : State) (l : I) → Ready s
      → EndsRow lefts rights clones infallible copies certain s l (λ c. certain c → ⊥) → refused
  row_refused s l ready ends = (MatchOption-at_some _ _ ends.2 ends.5 ready).0 ends.6

  restarted : (s : State) (l : I) (d : J) → Ready s
      → EndsRow lefts rights clones infallible copies certain s l (λ c. copies c d)
      → from d × HasFirst rights d
  restarted s l d ready ends = (MatchOption-at_some _ _ ends.2 ends.5 ready).1 d ends.6

  ready_on : (s t : State) → restart_of t ≡ restart_of s → Ready s → Ready t
  ready_on s t same ready = subst (λ o. MatchOption o refused (λ c. ((certain c → ⊥) → refused)
      × ((d : J) → copies c d → from d × HasFirst rights d))) (sym same) ready

  -- The end, after which no result follows.
  at_end : (s t : State) → is_exhausted s ≡ false → s ≡ t
      → (whole ≡ true → (u : State) × Next t None u) → (whole && true) ≡ true → Ends s
  at_end s t live e fin w =
      let over = fin (both_true whole true w).0 in
      let there = subst (λ q. is_exhausted q ≡ false) e live in
      subst Ends (sym e) (MatchBool-at_false _ _ there over.1).0

  -- The item of a row: the one that is held, or the first one.
  of_held : (s : State) (x w : A) (l : I) → row_of s ≡ Some x → Of s w l
      → (w ≡ x) × (l ≡ left_of s)
  of_held s x w l at (inl h) = (same_item (sym h.0 ∙ at), h.1)
  of_held s x w l at (inr h) = absurd (none-some x (sym h.0 ∙ at))

  first_of : (s : State) (w : A) (l : I) → row_of s ≡ None → Of s w l
      → lefts (left_of s) (Some w) l
  first_of s w l at (inl h) = absurd (none-some w (sym at ∙ h.0))
  first_of s w l at (inr h) = h.1

  -- The end, within a row and before the first one.
  ends_row : (s : State) (x : A) → row_of s ≡ Some x → Ready s → Ends s
      → ((u : I) × lefts (left_of s) None u) × ((j : J) × rights (right_of s) None j)
  ends_row s x at ready (inl e) = absurd (none-some x (sym e.1 ∙ at))
  ends_row s x at ready (inr (inl e)) = (
    (e.3, subst (λ q. lefts q None e.3) (of_held s x e.0 e.1 at e.4).1 e.6),
    (e.2, e.5),
  )
  ends_row s x at ready (inr (inr e)) = absurd ((restarted s e.0 e.1 ready e.5).1 e.4 e.7)

  ends_fresh : (s : State) → HasFirst rights (right_of s) → Ends s
      → (u : I) × lefts (left_of s) None u
  ends_fresh s has (inl e) = (e.0, e.2)
  ends_fresh s has (inr (inl e)) = absurd (has e.2 e.5)
  ends_fresh s has (inr (inr e)) = absurd (has e.5.1 e.5.4)

  -- An `Err` within a row.
  stops_row : (s : State) (x : A) (e : E) → row_of s ≡ Some x → Ready s → Refuses s
      → Stops x (right_of s) (left_of s) e
  stops_row s x e at ready (inl none) =
      side_stops x (right_of s) (left_of s) e (none_ready s ready none)
  stops_row s x e at ready (inr (inl (w, b, l, r, inl g, bad))) =
      item_stops x (right_of s) r b (left_of s) e g.1
      (subst (λ q. infallible q → ⊥) (of_held s x w l at g.0).0 bad)
  stops_row s x e at ready (inr (inl (w, b, l, r, inr g, bad))) =
      next_stops x w (right_of s) g.2.1 g.1 (left_of s) l e g.2.4
      (restarted s g.0 g.1 ready g.2).0
      (subst (λ q. lefts q (Some w) l) (of_held s x g.2.0 g.0 at g.2.3).1 g.3)
      (item_stops w g.1 r b l e g.4 bad)
  stops_row s x e at ready (inr (inr g)) =
      side_stops x (right_of s) (left_of s) e (row_refused s g.0 ready g.3)

  abbrev Behind : State → List (Result (A × B) E) → Type 0
  Behind j zs = (x : A) → is_exhausted j ≡ false → row_of j ≡ Some x → Ready j
      → InRow x (right_of j) (left_of j) zs

  -- A pair within a row or after it.
  behind : (s j : State) (x : A) (p : A × B) (zs : List (Result (A × B) E))
      → row_of s ≡ Some x → Ready s → Pair s p j → Behind j zs
      → InRow x (right_of s) (left_of s) (Ok p ∷ zs)
  behind s j x p zs at ready (w, now, same, on, kept, inl g) ih =
      let held = of_held s x w (left_of j) at g.0 in
      let came = more w (right_of s) (right_of j) (left_of j) p zs same g.1
      (ih w on now (ready_on s j kept ready)) in
      subst (λ q. InRow q (right_of s) (left_of s) (Ok p ∷ zs)) held.0
      (subst (λ q. InRow w (right_of s) q (Ok p ∷ zs)) held.1 came)
  behind s j x p zs at ready (w, now, same, on, kept, inr g) ih =
      next_row x w (right_of s) g.2.1 g.1 (left_of s) (left_of j) (Ok p ∷ zs) g.2.4
      (restarted s g.0 g.1 ready g.2).0
      (subst (λ q. lefts q (Some w) (left_of j)) (of_held s x g.2.0 g.0 at g.2.3).1 g.3)
      (more w g.1 (right_of j) (left_of j) p zs same g.4
      (ih w on now (ready_on s j kept ready)))

  in_row : (s : State) (x : A) (zs : List (Result (A × B) E)) → is_exhausted s ≡ false
      → row_of s ≡ Some x → Ready s → DrainsIf Next (whole ≡ true) s zs
      → InRow x (right_of s) (left_of s) zs
  in_row s x [] live at ready (t, e, fin) =
      let over = λ (w : (whole && true) ≡ true).
      ends_row s x at ready (at_end s t live e fin w) in (
        [],
        [],
        [],
        refl,
        (left_of s, refl, λ w. (over w).0),
        (right_of s, refl, λ w. (over w).1),
        tt,
        λ w. refl,
      )
  in_row s x (Err e ∷ zs) live at ready (t, (j, st, rest), fin) =
      let refuses = MatchBool-at_false _ _ live st in
      stopped j x (right_of s) (left_of s) e zs refuses.1 (t, rest, fin)
      (stops_row s x e at ready refuses.0)
  in_row s x (Ok p ∷ zs) live at ready (t, (j, st, rest), fin) =
      behind s j x p zs at ready (MatchBool-at_false _ _ live st)
      (λ w on now on_ready. in_row j w zs on now on_ready (t, rest, fin))

  none_came : (l : I) (j : State) (e : E) (zs : List (Result (A × B) E)) → is_exhausted j ≡ true
      → DrainsIf Next (whole ≡ true) j zs → refused → Came l (Err e ∷ zs)
  none_came l j e zs over run bad = (
    [],
    [],
    refl,
    (l, refl, λ w. absurd (unended w)),
    tt,
    subst (λ q. Cloned [] (Err e ∷ q)) (sym (silent _ j zs over run)) (refl, bad),
    λ w. absurd (unended w),
  )

  -- An `Err` before the first row.
  fresh_stops : (s j : State) (e : E) (zs : List (Result (A × B) E)) → row_of s ≡ None → Ready s
      → from (right_of s) → HasFirst rights (right_of s) → is_exhausted j ≡ true
      → DrainsIf Next (whole ≡ true) j zs → Refuses s → Came (left_of s) (Err e ∷ zs)
  fresh_stops s j e zs at ready origin has over run (inl none) =
      none_came (left_of s) j e zs over run (none_ready s ready none)
  fresh_stops s j e zs at ready origin has over run (inr (inl (w, b, l, r, inl g, bad))) =
      first_row w (right_of s) (left_of s) l (Err e ∷ zs) origin (first_of s w l at g.0)
      (stopped j w (right_of s) l e zs over run (item_stops w (right_of s) r b l e g.1 bad))
  fresh_stops s j e zs at ready origin has over run (inr (inl (w, b, l, r, inr g, bad))) =
      absurd (has g.2.1 g.2.4)
  fresh_stops s j e zs at ready origin has over run (inr (inr g)) = absurd (has g.3.1 g.3.4)

  first : (s j : State) (p : A × B) (zs : List (Result (A × B) E)) → row_of s ≡ None → Ready s
      → from (right_of s) → HasFirst rights (right_of s) → Pair s p j → Behind j zs
      → Came (left_of s) (Ok p ∷ zs)
  first s j p zs at ready origin has (w, now, same, on, kept, inl g) ih =
      first_row w (right_of s) (left_of s) (left_of j) (Ok p ∷ zs) origin
      (first_of s w (left_of j) at g.0)
      (more w (right_of s) (right_of j) (left_of j) p zs same g.1
      (ih w on now (ready_on s j kept ready)))
  first s j p zs at ready origin has (w, now, same, on, kept, inr g) ih = absurd (has g.2.1 g.2.4)

  -- The results from before the first pair on.
  pub DrainsIf-product : (s : State) (zs : List (Result (A × B) E)) → is_exhausted s ≡ false
      → row_of s ≡ None → Ready s → from (right_of s) → HasFirst rights (right_of s)
      → DrainsIf Next (whole ≡ true) s zs → Came (left_of s) zs
  DrainsIf-product s [] live at ready origin has (t, e, fin) = (
    [],
    [],
    refl,
    (left_of s, refl, λ w. ends_fresh s has (at_end s t live e fin w)),
    tt,
    tt,
    λ w. refl,
  )
  DrainsIf-product s (Err e ∷ zs) live at ready origin has (t, (j, st, rest), fin) =
      let refuses = MatchBool-at_false _ _ live st in
      fresh_stops s j e zs at ready origin has refuses.1 (t, rest, fin) refuses.0
  DrainsIf-product s (Ok p ∷ zs) live at ready origin has (t, (j, st, rest), fin) =
      first s j p zs at ready origin has (MatchBool-at_false _ _ live st)
      (λ w on now on_ready. in_row j w zs on now on_ready (t, rest, fin))
