-- Proofs about groupings, which the implementations use.
use Rattle.std.proofs.Common.{subst, sym, ap, ◌∙◌}
use Rattle.std.specs.Prelude.{◌≡◌, List, [], ◌∷◌, map, Option, None, refl}
use Rattle.std.specs.Iterator.{Yields}
use Rattle.ne_vec.specs.Divisions.{concat}
use Rattle.ne_iter.specs.Keys.{items_of}
use Rattle.ne_iter.specs.GroupingRuns.{RunTest, IsOver, StandsAt, HasRead, ReturnsNext}
use Rattle.ne_iter.specs.Grouping.{Grouping}
use Rattle.ne_iter.specs.declared.iter.divided.State.TheVariants.{Unread, Ended}
use Rattle.ne_iter.specs.Sources.{HasFirst}

pub nil_mapped : {A B : Type 0} (f : A → B) (xs : List A) → [] ≡ map f xs → xs ≡ []
nil_mapped f [] e = refl
nil_mapped f (x ∷ xs) e = cc

module _ {S K A F : Type 0} (steps : S → Option A → S → Type 0) (how : RunTest F A K) where
  -- A grouping that has taken nothing has returned no runs.
  pub fresh_grouping : (g : Grouping S K A F) → g.state ≡ Unread
      → HasRead steps how g.source g.closure [] g
  fresh_grouping g e = record {
    drawn = [];
    runs = [];
    returned = refl;
    called = refl;
    stands = subst (λ a. StandsAt steps how g.closure a g.source [] g.source []) (sym e)
        (refl, refl, refl);
  }

  -- A grouping that is over and returned no run found its source at the end.
  pub over_at_once : (s : S) (f : F) (h : Grouping S K A F) → HasRead steps how s f [] h
      → IsOver h → (t : S) × steps s None t
  over_at_once s f h read over =
      let none : read.runs ≡ [] = nil_mapped items_of read.runs read.returned in
      let ended : StandsAt steps how f Ended s read.drawn h.source read.runs = subst
      (λ a. StandsAt steps how f a s read.drawn h.source read.runs) over read.stands in
      let drawn : read.drawn ≡ [] = sym ended.1.whole ∙ ap concat none in
      let begun : s ≡ ended.0.0 = subst (λ l. Yields steps s (items_of l) ended.0.0) drawn ended.0.1
      in
      (h.source, subst (λ q. steps q None h.source) (sym begun) ended.0.2)

  pub HasFirst-grouped : (g : Grouping S K A F) → g.state ≡ Unread → HasFirst steps g.source
      → HasFirst (ReturnsNext steps how) g
  HasFirst-grouped g unread has t step =
      let end = over_at_once g.source g.closure t
      (step.reads g.source g.closure [] (fresh_grouping g unread)) step.stops in
      has end.0 end.1
