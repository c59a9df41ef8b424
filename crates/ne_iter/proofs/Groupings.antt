-- The steps of a grouping: a run is begun, continued, and returned.
use Rattle.std.proofs.Common.{◌≡◌, ◌≢◌, Bool, true, false, List, [], ◌∷◌, ◌++◌, map, Option, Some}
use Rattle.std.proofs.Common.{None, refl, sym, ap, subst, ◌∙◌, append_assoc, append-nil, slice_get}
use Rattle.std.proofs.iter.Next.{Yields-more}
use Rattle.std.proofs.lemmas.Fn.{FoldsTo-push}
use Rattle.std.proofs.lemmas.List.{map-append}
use Rattle.std.proofs.lemmas.List.Elements.{Contains-append_left, Contains-push}
use Rattle.std.proofs.slice.Lists.{all_by_recursion_push}
use Rattle.std.specs.Iterator.{Yields}
use Rattle.std.specs.List.{Contains}
use Rattle.ne_vec.specs.Divisions.{IsDivision, by_first, concat}
use Rattle.ne_vec.specs.DivisionLaws.{division_goes_on, division_breaks, run_one}
use Rattle.ne_iter.specs.Keys.{items_of}
use Rattle.ne_iter.specs.GroupingRuns.{RunTest, GivesKeys, Divides, StandsAt, HasRead}
use Rattle.ne_iter.specs.RunTestLaws.{all_left}
use Rattle.ne_iter.specs.declared.iter.divided.State.{State}
use Rattle.ne_iter.specs.declared.iter.divided.State.TheVariants.{Unread, Held, Ended}
use Rattle.ne_iter.specs.Grouping.{Grouping}

one_more_is_some : {A : Type 0} (xs : List A) (y : A) → xs ++ y ∷ [] ≢ []
one_more_is_some [] y = λ e. cc
one_more_is_some (x ∷ xs) y = λ e. cc

concat_push : {A : Type 0} (rs : List (List A)) (r : List A)
    → concat (rs ++ r ∷ []) ≡ concat rs ++ r
concat_push [] r = append-nil r
concat_push (s ∷ rs) r = ap (λ l. s ++ l) (concat_push rs r) ∙ sym (append_assoc s (concat rs) r)

pub first_is_there : {A : Type 0} (run : List A) (y : A) → slice_get run 0 ≡ Some y → Contains run y
first_is_there [] y e = absurd cc
first_is_there (z ∷ run) y e = let same : z ≡ y = cc in
    subst (Contains (z ∷ run)) same (Contains-append_left (z ∷ []) run z (Contains-push [] z))

first_is : {A : Type 0} (run : List A) (x y : A) (later : List A) → run ≡ x ∷ later
    → slice_get run 0 ≡ Some y → x ≡ y
first_is [] x y later e there = absurd cc
first_is (z ∷ run) x y later e there = cc

one_run_more : {A K : Type 0} (rs : List (List A)) (k : K) (run : List A)
    (runs : List (List (A × K))) (first : A) (later : List (A × K)) → rs ≡ map items_of runs
    → run ≡ first ∷ items_of later
    → rs ++ run ∷ [] ≡ map items_of (runs ++ ((first, k) ∷ later) ∷ [])
one_run_more rs k run runs first later returned is = ap (λ l. l ++ run ∷ []) returned
    ∙ (ap (λ r. map items_of runs ++ r ∷ []) is
    ∙ sym (map-append items_of runs (((first, k) ∷ later) ∷ [])))

pub division_of_none : {A : Type 0} (goes_on : List A → A → Bool) → IsDivision goes_on [] []
division_of_none goes_on = record { whole = refl; runs = tt; breaks = tt }

module _ {A K F : Type 0} (how : RunTest F A K) (f : F) where
  pub divides_none : Divides how f [] []
  divides_none =
      record { whole = refl; some = tt; divides = λ test is. division_of_none (by_first test) }

  divides_one : (p : A × K) → Divides how f (p ∷ []) ((p ∷ []) ∷ [])
  divides_one p = record {
    whole = refl;
    some = ((λ none. cc), tt);
    divides = λ test is.
        record { whole = refl; runs = (run_one (by_first test) p, tt); breaks = tt };
  }

  module _ (xs : List (A × K)) (p : A × K) (runs : List (List (A × K))) (last : List (A × K))
      (d : Divides how f xs (runs ++ last ∷ [])) where
    divides_more : ((test : A × K → A × K → Bool) → how.tests f test → by_first test last p ≡ true)
        → Divides how f (xs ++ p ∷ []) (runs ++ (last ++ p ∷ []) ∷ [])
    divides_more same = record {
      whole = concat_push runs (last ++ p ∷ []) ∙ (sym (append_assoc (concat runs) last (p ∷ []))
          ∙ ap (λ l. l ++ p ∷ []) (sym (concat_push runs last) ∙ d.whole));
      some = all_by_recursion_push (λ r. r ≢ []) runs (last ++ p ∷ [])
          (all_left (λ r. r ≢ []) runs (last ∷ []) d.some) (one_more_is_some last p);
      divides = λ test is. division_goes_on (by_first test) xs p runs last (d.divides test is)
          (same test is);
    }

    divides_other : ((test : A × K → A × K → Bool) → how.tests f test
        → by_first test last p ≡ false)
        → Divides how f (xs ++ p ∷ []) ((runs ++ last ∷ []) ++ (p ∷ []) ∷ [])
    divides_other other = record {
      whole = concat_push (runs ++ last ∷ []) (p ∷ []) ∙ ap (λ l. l ++ p ∷ []) d.whole;
      some = all_by_recursion_push (λ r. r ≢ []) (runs ++ last ∷ []) (p ∷ []) d.some (λ none. cc);
      divides = λ test is. division_breaks (by_first test) xs p runs last (d.divides test is)
          (other test is);
    }

module _ {S K A F : Type 0} (steps : S → Option A → S → Type 0) (how : RunTest F A K)
    (steady : (x : A) (k : K) (f g : F) (test : A × K → A × K → Bool) → how.keys f x k g
    → how.tests f test → how.tests g test) where
  -- The runs that were returned, and one that was begun and has not ended yet.
  pub record OpenRun (s : S) (f : F) (rs : List (List A)) (t : S) (g : F) (k : K)
      (run : List A) : Type 0 where
    pub drawn : List (A × K)
    pub runs : List (List (A × K))
    pub first : A
    pub later : List (A × K)
    pub returned : rs ≡ map items_of runs
    pub called : GivesKeys how f drawn g
    pub came : Yields steps s (items_of drawn) t
    pub divided : Divides how f drawn (runs ++ ((first, k) ∷ later) ∷ [])
    pub is : run ≡ first ∷ items_of later

  -- Asking for keys does not change what the closure says of two items.
  tests_on : (test : A × K → A × K → Bool) (f : F) (ps : List (A × K)) (g : F)
      → GivesKeys how f ps g → how.tests f test → how.tests g test
  tests_on test f [] g called is = subst (λ q. how.tests q test) called is
  tests_on test f (p ∷ ps) g called is =
      tests_on test called.0 ps g called.2 (steady p.0 p.1 f called.0 test called.1 is)

  module _ (s : S) (f : F) (rs : List (List A)) where
    pub open_first : (g : Grouping S K A F) (x : A) (k : K) (t : S) (f' : F)
        → HasRead steps how s f rs g → g.state ≡ Unread
        → steps g.source (Some x) t → how.keys g.closure x k f'
        → OpenRun s f rs t f' k (x ∷ [])
    open_first g x k t f' h e step key =
        let stands : StandsAt steps how f Unread s h.drawn g.source h.runs = subst
        (λ a. StandsAt steps how f a s h.drawn g.source h.runs) e h.stands in
        let fresh : GivesKeys how f [] g.closure = subst (λ l. GivesKeys how f l g.closure)
        stands.0 h.called in
        record {
          drawn = (x, k) ∷ [];
          runs = [];
          first = x;
          later = [];
          returned = h.returned ∙ ap (map items_of) stands.1;
          called = (f', subst (λ q. how.keys q x k f') (sym fresh) key, refl);
          came = (t, subst (λ q. steps q (Some x) t) (sym stands.2) step, refl);
          divided = divides_one how f (x, k);
          is = refl;
        }

    pub open_held : (g : Grouping S K A F) (x : A) (k : K) → HasRead steps how s f rs g
        → g.state ≡ Held k x → OpenRun s f rs g.source g.closure k (x ∷ [])
    open_held g x k h e =
        let stands : StandsAt steps how f (Held k x) s h.drawn g.source h.runs = subst
        (λ a. StandsAt steps how f a s h.drawn g.source h.runs) e h.stands in
        record {
          drawn = h.drawn;
          runs = h.runs;
          first = x;
          later = [];
          returned = h.returned;
          called = h.called;
          came = stands.1;
          divided = stands.2;
          is = refl;
        }

    -- The run is returned if the source has ended.
    pub close_end : (t : S) (g : F) (k : K) (run : List A) (h : Grouping S K A F)
        → OpenRun s f rs t g k run → steps t None h.source → g ≡ h.closure → h.state ≡ Ended
        → HasRead steps how s f (rs ++ run ∷ []) h
    close_end t g k run h o step same e = record {
      drawn = o.drawn;
      runs = o.runs ++ ((o.first, k) ∷ o.later) ∷ [];
      returned = one_run_more rs k run o.runs o.first o.later o.returned o.is;
      called = subst (λ q. GivesKeys how f o.drawn q) same o.called;
      stands = subst (λ a. StandsAt steps how f a s o.drawn h.source
          (o.runs ++ ((o.first, k) ∷ o.later) ∷ [])) (sym e) ((t, o.came, step), o.divided);
    }

    -- One more item x was taken, with its key k', and the answer is whether it continues the run.
    module _ (t : S) (g : F) (k : K) (run : List A) (x : A) (k' : K) (t' : S) (g' : F)
        (o : OpenRun s f rs t g k run) (step : steps t (Some x) t') (key : how.keys g x k' g')
        (first : A) (there : slice_get run 0 ≡ Some first) (answer : Bool)
        (says : (test : A × K → A × K → Bool) → how.tests g' test
        → answer ≡ test (first, k) (x, k')) where
      drawn_more : Yields steps s (items_of (o.drawn ++ (x, k') ∷ [])) t'
      drawn_more = subst (λ l. Yields steps s l t')
          (sym (map-append (λ p. p.0) o.drawn ((x, k') ∷ [])))
          (Yields-more steps s (items_of o.drawn) t x t' o.came step)

      called_more : GivesKeys how f (o.drawn ++ (x, k') ∷ []) g'
      called_more = FoldsTo-push {A = A × K} (λ p d q. how.keys p d.0 d.1 q) f o.drawn g (x, k') g'
          o.called key

      said : (test : A × K → A × K → Bool) → how.tests f test
          → by_first test ((o.first, k) ∷ o.later) (x, k') ≡ answer
      said test is = ap (λ y. test (y, k) (x, k')) (first_is run o.first first _ o.is there)
          ∙ sym (says test (steady x k' g g' test key (tests_on test f o.drawn g o.called is)))

      pub open_more : answer ≡ true → OpenRun s f rs t' g' k (run ++ x ∷ [])
      open_more same = record {
        drawn = o.drawn ++ (x, k') ∷ [];
        runs = o.runs;
        first = o.first;
        later = o.later ++ (x, k') ∷ [];
        returned = o.returned;
        called = called_more;
        came = drawn_more;
        divided = divides_more how f o.drawn (x, k') o.runs ((o.first, k) ∷ o.later) o.divided
            (λ test is. said test is ∙ same);
        is = ap (λ l. l ++ x ∷ []) o.is ∙ ap (λ l. o.first ∷ l)
            (sym (map-append (λ p. p.0) o.later ((x, k') ∷ [])));
      }

      pub close_held : (h : Grouping S K A F) → answer ≡ false → h.source ≡ t' → h.closure ≡ g'
          → h.state ≡ Held k' x → HasRead steps how s f (rs ++ run ∷ []) h
      close_held h other there gone e = record {
        drawn = o.drawn ++ (x, k') ∷ [];
        runs = o.runs ++ ((o.first, k) ∷ o.later) ∷ [];
        returned = one_run_more rs k run o.runs o.first o.later o.returned o.is;
        called = subst (λ q. GivesKeys how f (o.drawn ++ (x, k') ∷ []) q) (sym gone) called_more;
        stands = subst (λ a. StandsAt steps how f a s (o.drawn ++ (x, k') ∷ []) h.source
            (o.runs ++ ((o.first, k) ∷ o.later) ∷ [])) (sym e) (
              one_more_is_some o.runs ((o.first, k) ∷ o.later),
              subst (Yields steps s (items_of (o.drawn ++ (x, k') ∷ []))) (sym there) drawn_more,
              divides_other how f o.drawn (x, k') o.runs ((o.first, k) ∷ o.later) o.divided
                  (λ test is. said test is ∙ other),
            );
      }

pub held_is_not_over : {K A : Type 0} {k : K} {x : A} {a : State K A} → a ≡ Held k x → a ≡ Ended → ⊥
held_is_not_over e o = let p = sym e ∙ o in cc

pub unread_is_not_over : {K A : Type 0} {a : State K A} → a ≡ Unread → a ≡ Ended → ⊥
unread_is_not_over e o = let p = sym e ∙ o in cc
