-- The results of the calls of a closure that acts as a function.
use Rattle.std.proofs.Common.{sym, subst, ap}
use Rattle.std.specs.Prelude.{◌≡◌, List, [], ◌∷◌, map, refl}
use Rattle.std.specs.Borrow.{Bor}
use Rattle.std.specs.Fn.{Mut}
use Rattle.std.specs.Iterator.{ActsAs, ActsAsAt, ActsAsOnTwo, FoldTurn}
use Rattle.std.specs.List.{AllByRecursion, FoldsTo, fold}
use Rattle.ne_iter.specs.Calls.{ReturnsEach, ReturnsEachAt, Calls, Folds, CallsEachAt}
use Rattle.ne_iter.specs.Keys.{items_of}

pub function_values : {F A B : Type 0} (calls : Mut F (A × Unit {0}) B) (f : F) (h : A → B)
    (xs : List A) (ys : List B) (g : F) → ActsAs calls f h → Calls calls f xs ys g
    → (ys ≡ map h xs) × (g ≡ f)
function_values calls f h [] [] g acts e = (refl, sym e)
function_values calls f h [] (y ∷ ys) g acts e = absurd e
function_values calls f h (x ∷ xs) [] g acts e = absurd e
function_values calls f h (x ∷ xs) (y ∷ ys) g acts (q, call, rest) =
    let one = acts x y q call in
    let more = function_values calls f h xs ys g acts
    (subst (λ q. Calls calls q xs ys g) one.0 rest) in
    (let a = one.1 in let b = more.0 in cc, more.1)

pub values_at : {F A B : Type 0} (calls : Mut F (Bor A × Unit {0}) B) (f : F) (h : A → B)
    (ps : List (A × B)) (g : F) → ActsAsAt calls f h → CallsEachAt calls f ps g
    → (ps ≡ map (λ x. (x, h x)) (items_of ps)) × (g ≡ f)
values_at calls f h [] g acts e = (refl, sym e)
values_at calls f h ((x, y) ∷ ps) g acts (q, call, rest) =
    let one = acts x y q call in
    let more = values_at calls f h ps g acts (subst (λ q. CallsEachAt calls q ps g) one.0 rest) in
    (let a = one.1 in let b = more.0 in cc, more.1)

pub same_results : {F A B : Type 0} (calls : Mut F (A × Unit {0}) B) (f : F) (h : A → B) (y : B)
    (xs : List A) (g : F) → ActsAs calls f h → ReturnsEach calls y f xs g
    → AllByRecursion (λ x. h x ≡ y) xs × (g ≡ f)
same_results calls f h y [] g acts e = (tt, sym e)
same_results calls f h y (x ∷ xs) g acts (q, call, rest) =
    let one = acts x y q call in
    let more = same_results calls f h y xs g acts
    (subst (λ q. ReturnsEach calls y q xs g) one.0 rest) in
    ((sym one.1, more.0), more.1)

pub same_results_at : {F A B : Type 0} (calls : Mut F (Bor A × Unit {0}) B) (f : F) (h : A → B)
    (y : B) (xs : List A) (g : F) → ActsAsAt calls f h → ReturnsEachAt calls y f xs g
    → AllByRecursion (λ x. h x ≡ y) xs × (g ≡ f)
same_results_at calls f h y [] g acts e = (tt, sym e)
same_results_at calls f h y (x ∷ xs) g acts (q, call, rest) =
    let one = acts x y q call in
    let more = same_results_at calls f h y xs g acts
    (subst (λ q. ReturnsEachAt calls y q xs g) one.0 rest) in
    ((sym one.1, more.0), more.1)

pub folded_value : {F A B : Type 0} (calls : Mut F (B × (A × Unit {0})) B) (f : F)
    (h : B → A → B) (init r : B) (xs : List A) (g : F) → ActsAsOnTwo calls f h
    → Folds calls f init xs r g → (r ≡ fold h init xs) × (g ≡ f)
folded_value calls f h init r [] g acts e = (sym (ap (λ p. p.1) e), sym (ap (λ p. p.0) e))
folded_value {F = F} {B = B} calls f h init r (x ∷ xs) g acts (q, call, rest) =
    let one = acts init x q.1 q.0 call in
    let from_f = subst (λ p. FoldsTo {P = F × B} (FoldTurn calls) (p, q.1) xs (g, r)) one.0 rest in
    let from_next = subst (λ a. FoldsTo {P = F × B} (FoldTurn calls) (f, a) xs (g, r)) one.1
    from_f in
    folded_value calls f h (h init x) r xs g acts from_next
