-- What groupings say of the items that were taken, and of the list of a source.
use Rattle.std.proofs.Common.{◌≡◌, ◌≢◌, Bool, true, List, [], map, Option, Some, None, Result}
use Rattle.std.proofs.Common.{refl, sym, ap, subst, ◌∙◌, ◌⊎◌, inl, inr}
use Rattle.std.proofs.lemmas.Bool.{OnFalse_from}
use Rattle.std.specs.Borrow.{Bor}
use Rattle.std.specs.Fn.{Mut, Shared}
use Rattle.std.specs.Iterator.{ActsAsAt}
use Rattle.std.specs.Prelude.{MatchOption}
use Rattle.std.specs.declared.alloc.AllocError.{AllocError}
use Rattle.ne_vec.specs.Divisions.{by_first}
use Rattle.ne_vec.specs.Lists.{Lists, View}
use Rattle.ne_vec.specs.ListLaws.{triggered}
use Rattle.ne_vec.specs.RunLaws.{run_drains}
use Rattle.ne_iter.specs.GroupBy.{GroupsThrough, HasRuns, by_key}
use Rattle.ne_iter.specs.Grouping.{Grouping}
use Rattle.ne_iter.specs.GroupingRuns.{Divides, GivesKeys, IsUnread, RunTest, YieldsRuns}
use Rattle.ne_iter.specs.GroupingRuns.{YieldsRunsThrough}
use Rattle.ne_iter.specs.Keys.{items_of, same_key, IsDividedBy}
use Rattle.ne_iter.specs.LoopLaws.{reads_through}
use Rattle.ne_iter.specs.RunsBy.{AreRuns, Cuts, CutsInto, CutsThrough, HasCut}
use Rattle.ne_iter.specs.RunTestLaws.{are_runs, divided_through, division_of_runs}
use Rattle.ne_iter.specs.Sources.{Reads}
use Rattle.ne_iter.proofs.Divided.{all_some, joined_mapped}
use Rattle.ne_iter.proofs.Grouped.{Took}
use Rattle.ne_iter.proofs.SourceLists.{read_through}

-- ---- the items that were taken

module _ {U S A K F : Type 0} (becomes : U → S → Type 0) (steps : S → Option A → S → Type 0)
    (source : U) (f : F) (whole : Bool) (rs : List (List A)) where
  pub has_runs : (calls : Mut F (Bor A × Unit {0}) K) (eq : K → K → Bool)
      → Took steps (by_key calls eq) becomes source f whole rs
      → HasRuns (Reads becomes steps) calls eq whole source f rs
  has_runs calls eq t = record {
    drawn = t.drawn;
    closure = t.closure;
    held = t.held;
    ended = t.ended;
    read = t.read;
    called = t.called;
    divided = (t.runs, t.divided.divides (same_key eq) refl, t.returned);
    holds = t.holds;
    over = t.over;
  }

  none_drawn : (drawn : List (A × K)) (held : Option A) (E : Type 0) (P : A → Type 0)
      → MatchOption held (E ⊎ (drawn ≡ [])) P → MatchOption held (E ⊎ (items_of drawn ≡ [])) P
  none_drawn drawn None E P (inl e) = inl e
  none_drawn drawn None E P (inr e) = inr (ap items_of e)
  none_drawn drawn (Some x) E P h = h

  pub has_cut : (how : RunTest F A K) (calls : Shared F (Bor A × (Bor A × Unit {0})) Bool)
      → ((f g : F) (ps : List (A × K)) (runs : List (List (A × K))) → GivesKeys how f ps g
      → Divides how f ps runs → Cuts calls f (items_of ps) (map items_of runs))
      → Took steps how becomes source f whole rs
      → HasCut (Reads becomes steps) calls source f whole rs
  has_cut how calls cuts t = record {
    drawn = items_of t.drawn;
    held = t.held;
    ended = t.ended;
    read = t.read;
    cut = subst (CutsInto calls f (items_of t.drawn)) (sym t.returned) (record {
      whole = joined_mapped (λ p. p.0) t.runs ∙ ap items_of t.divided.whole;
      some = all_some (λ r. r ≢ []) (λ r some. some) t.runs t.divided.some;
      divides = λ test acts.
          division_of_runs by_first test (items_of t.drawn) (map items_of t.runs)
          (cuts f t.closure t.drawn t.runs t.called t.divided test acts);
    });
    holds = none_drawn t.drawn t.held (t.ended ≡ true) (λ _. rs ≢ []) t.holds;
    over = t.over;
  }

-- ---- the list of a source, through a view

module _ {A F : Type 0} (f : F) (view : View A) (ys : List A) (rs : List (List A)) where
  pub grouped_through : {K : Type 0} (calls : Mut F (Bor A × Unit {0}) K) (eq : K → K → Bool)
      → ((h : A → K) → ActsAsAt calls f h → IsDividedBy h eq ys rs)
      → GroupsThrough calls eq view f (map view.of ys) (map (map view.of) rs)
  unfolding IsDividedBy
  grouped_through calls eq says h acts = divided_through (λ a b. eq (h a) (h b)) view.of ys rs
      (says (λ x. h (view.of x)) acts)

  pub cut_through : (calls : Shared F (Bor A × (Bor A × Unit {0})) Bool) → Cuts calls f ys rs
      → CutsThrough calls view f (map view.of ys) (map (map view.of) rs)
  unfolding AreRuns
  cut_through calls cut test acts =
      let on : A → A → Bool = λ a b. test (view.of a) (view.of b) in
      are_runs by_first test (map view.of ys) (map (map view.of) rs)
      (divided_through test view.of ys rs (division_of_runs by_first on ys rs (cut on acts)))

-- `source_of` and `closure_of` are the source and the closure of a value that becomes a grouping.
module _ {U S A K F V : Type 0} (becomes : U → S → Type 0) (steps : S → Option A → S → Type 0)
    (u : U) (f : F) (source_of : V → U) (closure_of : V → F) (v : V)
    (same_source : source_of v ≡ u) (same_closure : closure_of v ≡ f)
    (next : Grouping S K A F → Option (Result (List A) AllocError) → Grouping S K A F → Type 0)
    (P : F → List A → List (List A) → Type 0) where
  pub yields_through : (view : View A) (Q : List view.Target → List (List view.Target) → Type 0)
      → ((ys : List A) (rs : List (List A)) → P f ys rs → Q (map view.of ys) (map (map view.of) rs))
      → YieldsRunsThrough view (λ view. Lists becomes steps view.of) u
      (λ v g. becomes (source_of v) g.source × (g.closure ≡ closure_of v) × IsUnread g
      × YieldsRuns steps next (P g.closure) g) next Q v
  yields_through view Q through = OnFalse_from view.is_itself _ (λ _ xs lists. (
    triggered u xs,
    λ g made p seen from rs is whole. (
      refl,
      let some = (made.3 p seen from rs is whole).1 in
          read_through becomes steps u view.of xs (reads_through becomes steps u view.of xs lists)
          (λ l. Q l (map (map view.of) rs)) some.0.items
          (subst (λ w. Reads becomes steps w u some.0.items) some.2.0 (record {
            it = g.source;
            made = subst (λ q. becomes q g.source) same_source made.0;
            given = run_drains steps some.0 g.source some.1;
          }))
          (through some.0.items rs
          (subst (λ k. P k some.0.items rs) (made.1 ∙ same_closure) some.2.1)),
    ),
  ))
