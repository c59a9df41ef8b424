-- The results of the calls of a grouping, and what they say about its source.
use Rattle.std.proofs.Common.{◌≡◌, Bool, true, false, List, [], ◌∷◌, ◌++◌, map, Option, Some, None}
use Rattle.std.proofs.Common.{Result, Ok, Err, refl, sym, ap, subst, ◌∙◌, append_assoc, ◌⊎◌, inl}
use Rattle.std.proofs.Common.{inr}
use Rattle.std.proofs.lemmas.List.{append-nil, map_push}
use Rattle.std.proofs.iter.runs.Made.{run}
use Rattle.std.specs.Iterator.{DrainsIf, Yields}
use Rattle.std.specs.List.{FoldsTo, AllByRecursion}
use Rattle.std.specs.Prelude.{◌≢◌, MatchOption}
use Rattle.std.specs.declared.alloc.AllocError.{AllocError}
use Rattle.ne_vec.specs.RunLaws.{run_drains}
use Rattle.ne_iter.specs.GroupBy.{GivesRuns, and_held}
use Rattle.ne_iter.specs.Keys.{items_of}
use Rattle.ne_iter.specs.GroupingRuns.{Divides, GivesKeys, ReturnsNext, HasRead, IsOver, ReturnsOn}
use Rattle.ne_iter.specs.GroupingRuns.{ReturnsThen, RunTest, StandsAt, YieldsRuns}
use Rattle.ne_iter.specs.GroupingLaws.{fresh_grouping, nil_mapped}
use Rattle.ne_iter.specs.declared.iter.divided.State.{State}
use Rattle.ne_iter.specs.declared.iter.divided.State.TheVariants.{Unread, Held, Ended}
use Rattle.ne_iter.specs.Grouping.{Grouping}
use Rattle.ne_iter.specs.Sources.{Reads}
use Rattle.ne_iter.proofs.Groupings.{divides_none, held_is_not_over, unread_is_not_over}

module _ {S K A F : Type 0} (steps : S → Option A → S → Type 0) (how : RunTest F A K) where
  -- A grouping that is over returns only `None`.
  none_ever_after : (g h : Grouping S K A F) (results : List (Option (Result (List A) AllocError)))
      → IsOver g → FoldsTo (ReturnsNext steps how) g results h
      → IsOver h × AllByRecursion (λ a. a ≡ None) results
  none_ever_after g h [] over calls = (subst IsOver calls over, tt)
  none_ever_after g h (a ∷ results) over calls =
      let step = calls.1.over over in
      let more = none_ever_after calls.0 h results (subst IsOver (sym step.1) over) calls.2 in
      (more.0, (step.0, more.1))

  pub returns_on : (s : S) (f : F) (done : List (List A))
      (results : List (Option (Result (List A) AllocError))) (g h : Grouping S K A F)
      → HasRead steps how s f done g
      → FoldsTo (ReturnsNext steps how) g results h
      → ReturnsOn steps how s f done results h
  returns_on s f done [] g h read calls = record {
    runs = [];
    later = [];
    are_all = refl;
    ended = subst (λ l. HasRead steps how s f l h) (sym (append-nil done))
        (subst (HasRead steps how s f done) calls read);
  }
  returns_on s f done (None ∷ results) g h read calls =
      let first = calls.1 in
      let more = none_ever_after calls.0 h results first.stops calls.2 in record {
        runs = [];
        later = None ∷ results;
        are_all = refl;
        ended = (
          subst (λ l. HasRead steps how s f l h) (sym (append-nil done))
              (stays calls.0 h results first.stops (first.reads s f done read) calls.2),
          more.0,
          more.1,
        );
      }
    where
      stays : (g h : Grouping S K A F) (results : List (Option (Result (List A) AllocError)))
          → IsOver g → HasRead steps how s f done g
          → FoldsTo (ReturnsNext steps how) g results h
          → HasRead steps how s f done h
      stays g h [] over read calls = subst (HasRead steps how s f done) calls read
      stays g h (a ∷ results) over read calls =
          let same = sym (calls.1.over over).1 in
          stays calls.0 h results (subst IsOver same over)
          (subst (HasRead steps how s f done) same read) calls.2
  returns_on s f done (Some (Ok run) ∷ results) g h read calls =
      let more = returns_on s f (done ++ run ∷ []) results calls.0 h (calls.1.reads s f done read)
      calls.2 in record {
        runs = run ∷ more.runs;
        later = more.later;
        are_all = ap (λ l. Some (Ok run) ∷ l) more.are_all;
        ended = subst (λ l. ReturnsThen steps how s f l more.later h)
            (append_assoc done (run ∷ []) more.runs) more.ended;
      }
  returns_on s f done (Some (Err e) ∷ results) g h read calls =
      let more = none_ever_after calls.0 h results calls.1.stops calls.2 in record {
        runs = [];
        later = Some (Err e) ∷ results;
        are_all = refl;
        ended = (
          (
            g,
            subst (λ l. HasRead steps how s f l g) (sym (append-nil done)) read,
          ),
          more.0,
          more.1,
        );
      }

  -- The runs that were returned.
  pub read_on : (s : S) (f : F) (done rs : List (List A)) (g h : Grouping S K A F)
      → HasRead steps how s f done g → Yields (ReturnsNext steps how) g (map Ok rs) h
      → HasRead steps how s f (done ++ rs) h
  read_on s f done [] g h read calls = subst (λ l. HasRead steps how s f l h)
      (sym (append-nil done)) (subst (HasRead steps how s f done) calls read)
  read_on s f done (run ∷ rs) g h read calls = subst (λ l. HasRead steps how s f l h)
      (append_assoc done (run ∷ []) rs) (read_on s f (done ++ run ∷ []) rs calls.0 h
      (calls.1.reads s f done read) calls.2)

  -- The results are runs, and possibly an `Err` after them. Q follows from what was read before it.
  module _ (s : S) (f : F) (Q : List (List A) → Type 0)
      (says : (rs : List (List A)) (k : Grouping S K A F) → HasRead steps how s f rs k → Q rs) where
    abbrev Came : List (List A) → List (Result (List A) AllocError) → Type 0
    Came done xs = (rs : List (List A)) × ((xs ≡ map Ok rs)
        ⊎ ((e : AllocError) × (xs ≡ map Ok rs ++ Err e ∷ []) × Q (done ++ rs)))

    one_more_came : (done : List (List A)) (run : List A) (xs : List (Result (List A) AllocError))
        → Came (done ++ run ∷ []) xs → Came done (Ok run ∷ xs)
    one_more_came done run xs (rs, inl e) = (run ∷ rs, inl (ap (λ l. Ok run ∷ l) e))
    one_more_came done run xs (rs, inr (e, is, q)) = (
      run ∷ rs,
      inr (e, ap (λ l. Ok run ∷ l) is, subst Q (append_assoc done (run ∷ []) rs) q),
    )

    came : (done : List (List A)) (xs : List (Result (List A) AllocError))
        (g h : Grouping S K A F) → HasRead steps how s f done g
        → Yields (ReturnsNext steps how) g xs h → Came done xs
    came done [] g h read calls = ([], inl refl)
    came done (Ok run ∷ xs) g h read calls = one_more_came done run xs
        (came (done ++ run ∷ []) xs calls.0 h (calls.1.reads s f done read) calls.2)
    came done (Err e ∷ []) g h read calls =
        ([], inr (e, refl, subst Q (sym (append-nil done)) (says done g read)))
    came done (Err e ∷ x ∷ xs) g h read calls = let none = (calls.2.1.over calls.1.stops).0 in cc

  -- A source became a grouping, which took the items drawn, and returned the runs rs.
  module _ {U : Type 0} (becomes : U → S → Type 0) (source : U) (f : F) where
    pub record Took (whole : Bool) (rs : List (List A)) : Type 0 where
      pub drawn : List (A × K)
      pub runs : List (List (A × K))
      pub closure : F
      pub held : Option A
      pub ended : Bool
      pub read : Reads becomes steps ended source (items_of drawn)
      pub called : GivesKeys how f drawn closure
      pub divided : Divides how f drawn runs
      pub returned : and_held rs held ≡ map items_of runs
      pub holds : MatchOption held ((ended ≡ true) ⊎ (drawn ≡ [])) (λ _. rs ≢ [])
      pub over : whole ≡ true → (ended ≡ true) × (held ≡ None)

    module _ (s : S) (made : becomes source s) where
      took_at : (a : State K A) (whole : Bool) (rs : List (List A)) (drawn : List (A × K))
          (runs : List (List (A × K))) (g : F) (t : S) → StandsAt steps how f a s drawn t runs
          → rs ≡ map items_of runs → GivesKeys how f drawn g → (whole ≡ true → a ≡ Ended)
          → Took whole rs
      took_at Unread whole rs drawn runs g t stands e called over = record {
        drawn = drawn;
        runs = runs;
        closure = g;
        held = None;
        ended = false;
        read = record {
          it = s;
          made = made;
          given = (
            t,
            subst (λ l. Yields steps s (items_of l) t) (sym stands.0) stands.2,
            λ w. cc,
          );
        };
        called = called;
        divided = subst (λ l. Divides how f l runs) (sym stands.0)
            (subst (Divides how f []) (sym stands.1) (divides_none how f));
        returned = e;
        holds = inr stands.0;
        over = λ w. absurd (unread_is_not_over refl (over w));
      }
      took_at (Held k x) whole rs drawn runs g t stands e called over = record {
        drawn = drawn;
        runs = runs ++ ((x, k) ∷ []) ∷ [];
        closure = g;
        held = Some x;
        ended = false;
        read = record { it = s; made = made; given = (t, stands.1, λ w. cc) };
        called = called;
        divided = stands.2;
        returned = ap (λ l. l ++ (x ∷ []) ∷ []) e ∙ sym (map_push items_of runs ((x, k) ∷ []));
        holds = λ none. stands.0 (nil_mapped items_of runs (sym none ∙ e));
        over = λ w. absurd (held_is_not_over refl (over w));
      }
      took_at Ended whole rs drawn runs g t stands e called over = record {
        drawn = drawn;
        runs = runs;
        closure = g;
        held = None;
        ended = true;
        read =
            record { it = s; made = made; given = (stands.0.0, stands.0.1, λ w. (t, stands.0.2)) };
        called = called;
        divided = stands.1;
        returned = e;
        holds = inl refl;
        over = λ w. (refl, refl);
      }

      took : (whole : Bool) (rs : List (List A)) (h : Grouping S K A F)
          → HasRead steps how s f rs h → (whole ≡ true → IsOver h) → Took whole rs
      took whole rs h read over = took_at h.state whole rs read.drawn read.runs h.closure
          h.source read.stands read.returned read.called over

      -- The runs that were returned, if the calls ended, and before an `Err`.
      pub given_runs : (whole : Bool) (rs : List (List A)) (g h : Grouping S K A F)
          → HasRead steps how s f [] g → Yields (ReturnsNext steps how) g (map Ok rs) h
          → (whole ≡ true → (u : Grouping S K A F) × ReturnsNext steps how h None u)
          → Took whole rs
      given_runs false rs g h read calls end =
          took false rs h (read_on s f [] rs g h read calls) (λ w. cc)
      given_runs true rs g h read calls end = let last = (end refl).1 in
          took true rs (end refl).0 (last.reads s f rs (read_on s f [] rs g h read calls))
          (λ w. last.stops)

  -- A grouping that `into_iter` makes has returned no run.
  begun : (it : Grouping S K A F) (f : F) → it.closure ≡ f → it.state ≡ Unread
      → HasRead steps how it.source f [] it
  begun it f same unread = subst (λ q. HasRead steps how it.source q [] it) same
      (fresh_grouping steps how it unread)

  -- What a value v that becomes a grouping yields, if Q follows from what the grouping took.
  pub gives_runs : {U V : Type 0} (becomes : U → S → Type 0) (source_of : V → U)
      (closure_of : V → F) (P : Grouping S K A F → Type 0) (v : V)
      (Q : Bool → List (List A) → Type 0) → ((whole : Bool) (rs : List (List A))
      → Took becomes (source_of v) (closure_of v) whole rs → Q whole rs)
      → GivesRuns (Reads (λ v g. becomes (source_of v) g.source × (g.closure ≡ closure_of v)
      × (g.state ≡ Unread) × P g) (ReturnsNext steps how)) Q v
  gives_runs becomes source_of closure_of P v Q says = (
    λ whole rs h.
        says whole rs (given_runs becomes (source_of v) (closure_of v) h.it.source h.made.0 whole rs
        h.it h.given.0 (begun h.it (closure_of v) h.made.1 h.made.2) h.given.1 h.given.2),
    λ whole xs h. came h.it.source (closure_of v) (Q false)
        (λ rs k read. says false rs (took becomes (source_of v) (closure_of v) h.it.source h.made.0
        false rs k read (λ w. cc)))
        [] xs h.it h.given.0 (begun h.it (closure_of v) h.made.1 h.made.2) h.given.1,
  )

  -- The runs returned to the end, and the items of the source.
  pub yields_runs : (g : Grouping S K A F) → g.state ≡ Unread
      → (P : F → List A → List (List A) → Type 0)
      → ((f h : F) (ps : List (A × K)) (runs : List (List (A × K))) → GivesKeys how f ps h
      → Divides how f ps runs → P f (items_of ps) (map items_of runs))
      → YieldsRuns steps (ReturnsNext steps how) (P g.closure) g
  yields_runs g unread P divided p seen from rs is w =
      let whole : DrainsIf (ReturnsNext steps how) (p.whole ≡ true) g (map Ok rs) =
      subst (λ l. DrainsIf (ReturnsNext steps how) (p.whole ≡ true) g l) is
      (run_drains (ReturnsNext steps how) p g from) in
      let r = given_runs {U = S} (λ u s. u ≡ s) g.source g.closure g.source refl true rs g whole.0
      (fresh_grouping steps how g unread) whole.1 (λ e. whole.2 w) in
      let over = r.over refl in
      let read : Reads (λ u s. u ≡ s) steps true g.source (items_of r.drawn) =
      subst (λ e. Reads (λ u s. u ≡ s) steps e g.source (items_of r.drawn)) over.0 r.read in (
        refl,
        (
          run steps read.it (items_of r.drawn) true read.given,
          sym read.made,
          (
            refl,
            subst (P g.closure (items_of r.drawn))
                (sym (subst (λ held. and_held rs held ≡ map items_of r.runs) over.1 r.returned))
                (divided g.closure r.closure r.drawn r.runs r.called r.divided),
          ),
        ),
      )
