-- Rows in ascending order of their keys, divided by their keys, have one group for each key. So the
-- summaries of the groups are the report.
use Rattle.std.proofs.Common.{◌≡◌, ◌≢◌, ◌<◌, ◌≤◌, ℕ, suc, Bool, List, [], ◌∷◌, ◌++◌, map, true}
use Rattle.std.proofs.Common.{false, refl, ap, sym, subst, ap₂, ◌∙◌, arith, append_assoc, nat_eq}
use Rattle.std.proofs.Common.{rules, cond, Option, Less}
use Rattle.std.proofs.lemmas.Bool.{eqb-true, eqb-false, eq-eqb}
use Rattle.std.proofs.lemmas.List.{append-nil}
use Rattle.std.proofs.lemmas.List.Elements.{filter-append, All-nil, All-cons}
use Rattle.std.proofs.lemmas.List.Sorted.{All-permutation, IsPermutation-sym}
use Rattle.std.proofs.lemmas.Map.Keys.{IsStrictlyIncreasing-from_sorted}
use Rattle.std.specs.Prelude.{⊤, All, Contains, Some, slice_get, slice_index_or}
use Rattle.std.specs.List.{AllByRecursion}
use Rattle.std.specs.List.Sorted.{IsStrictlySortedBy, IsPermutation}
use Rattle.std.specs.Option.{option_map}
use Rattle.std.specs.Ordering.{nat_cmp}
use Rattle.nonempty_collections.specs.Consumers.{less_by}
use Rattle.nonempty_collections.specs.Divisions.{concat, Adjacent, Breaks, IsRun, by_first}
use Rattle.nonempty_collections.specs.KeyOrder.{KeysAscend, KeepsTies}
use Rattle.nonempty_collections.specs.Keys.{IsDividedBy}
use Rattle.user_programs.specs.Reports.{rows_of, IsSummary, AreSummaries, IsReport}
use Rattle.user_programs.specs.declared.report.Row.{Row}
use Rattle.user_programs.specs.declared.report.Summary.{Summary}

abbrev goes_on : List Row → Row → Bool
goes_on = by_first (λ x y. nat_eq x.key y.key)

-- All rows have the key k.
abbrev HaveKey : ℕ → List Row → Type 0
HaveKey k rows = AllByRecursion (λ r. k ≡ r.key) rows

abbrev AreAbove : ℕ → List Row → Type 0
AreAbove k rows = AllByRecursion (λ r. k < r.key) rows

abbrev AreAtLeast : ℕ → List Row → Type 0
AreAtLeast k rows = AllByRecursion (λ r. k ≤ r.key) rows

abbrev Ascend : List Row → Type 0
Ascend [] = ⊤
Ascend (r ∷ rows) = AreAtLeast r.key rows × Ascend rows

-- Each group has rows of one key, which is below the keys of all later groups.
abbrev Rise : List (List Row) → Type 0
Rise [] = ⊤
Rise ([] ∷ gs) = ⊥
Rise ((r ∷ g) ∷ gs) = HaveKey r.key g × AreAbove r.key (concat gs) × Rise gs

by_place : {X : Type 0} (P : X → Type 0) (xs : List X) → All P xs → AllByRecursion P xs
by_place P [] h = tt
by_place P (x ∷ xs) h = (
  h 0 x (omega arith),
  by_place P xs (λ k d less. h (suc k) d (omega (arith, less))),
)

not_above : (m n : ℕ) → less_by nat_cmp n m ≡ false → m ≤ n
not_above m n h = grind arith

ascends : (rows : List Row) → KeysAscend (λ r. r.key) nat_cmp rows → Ascend rows
unfolding KeysAscend
ascends [] h = tt
ascends (r ∷ rows) h = (
  by_place (λ s. r.key ≤ s.key) rows (λ k d less.
      not_above _ _ (h 0 (suc k) d (omega arith) (omega (arith, less)))),
  ascends rows (λ i j d le less. h (suc i) (suc j) d (omega (arith, le)) (omega (arith, less))),
)

later : (k : ℕ) (g rows : List Row) → AreAtLeast k (g ++ rows) → AreAtLeast k rows
later k [] rows h = h
later k (r ∷ g) rows h = later k g rows h.1

later_ascend : (g rows : List Row) → Ascend (g ++ rows) → Ascend rows
later_ascend [] rows h = h
later_ascend (r ∷ g) rows h = later_ascend g rows h.1

weaken : (m n : ℕ) (rows : List Row) → m < n → AreAtLeast n rows → AreAbove m rows
weaken m n [] less h = tt
weaken m n (r ∷ rows) less h = (omega (arith, less, h.0), weaken m n rows less h.1)

one_key : (r : Row) (prefix g : List Row) → IsRun goes_on (r ∷ (prefix ++ g)) → HaveKey r.key g
one_key r prefix [] run = tt
one_key r prefix (s ∷ g) run = (
  eqb-true _ _ (run.inside (r ∷ prefix) s g (λ none. cc) refl),
  one_key r (prefix ++ s ∷ []) g (subst (λ l. IsRun goes_on (r ∷ l))
      (sym (append_assoc prefix (s ∷ []) g)) run),
)

next_above : (r : Row) (g : List Row) (gs : List (List Row)) → AllByRecursion (IsRun goes_on) gs
    → Adjacent (Breaks goes_on) ((r ∷ g) ∷ gs) → AreAtLeast r.key (concat gs) → Ascend (concat gs)
    → AreAbove r.key (concat gs)
next_above r g [] runs breaks least ascend = tt
next_above r g ([] ∷ gs) runs breaks least ascend = absurd (runs.0.some refl)
next_above r g ((s ∷ h) ∷ gs) runs breaks least ascend =
    let other : r.key ≢ s.key = eqb-false _ _ breaks.0 in
    let less : r.key < s.key = omega (arith, other, least.0) in
    (less, weaken r.key s.key (h ++ concat gs) less ascend.0)

rises : (gs : List (List Row)) → AllByRecursion (IsRun goes_on) gs
    → Adjacent (Breaks goes_on) gs → Ascend (concat gs) → Rise gs
rises [] runs breaks ascend = tt
rises ([] ∷ gs) runs breaks ascend = absurd (runs.0.some refl)
rises ((r ∷ g) ∷ []) runs breaks ascend = (one_key r [] g runs.0, tt, tt)
rises ((r ∷ g) ∷ h ∷ gs) runs breaks ascend =
    let rest = later_ascend (r ∷ g) (concat (h ∷ gs)) ascend in (
      one_key r [] g runs.0,
      next_above r g (h ∷ gs) runs.1 breaks (later r.key g (concat (h ∷ gs)) ascend.0) rest,
      rises (h ∷ gs) runs.1 breaks.1 rest,
    )

-- The summaries of groups, one for each.
abbrev AreLines : List (List Row) → List Summary → Type 0
AreLines [] [] = ⊤
AreLines [] (s ∷ ss) = ⊥
AreLines (g ∷ gs) [] = ⊥
AreLines (g ∷ gs) (s ∷ ss) = IsSummary g s × AreLines gs ss

are_lines : (gs : List (List Row)) (lines : List Summary) → AreSummaries gs lines
    → AreLines gs lines
are_lines [] [] h = tt
are_lines [] (s ∷ ss) h = absurd (omega (arith, h.count))
are_lines (g ∷ gs) [] h = absurd (omega (arith, h.count))
are_lines (g ∷ gs) (s ∷ ss) h = (
  h.each 0 g s refl refl,
  are_lines gs ss (record {
    count = omega (arith, h.count);
    each = λ k group line at there. h.each (suc k) group line (search (rules, at))
        (search (rules, there));
  }),
)

-- All rows of a group with the key k are rows of k.
all_of : (k : ℕ) (g : List Row) → HaveKey k g → rows_of k g ≡ g
all_of k [] h = refl
all_of k (r ∷ g) h =
    rw (eq-eqb r.key k (sym h.0)) (ap (λ l. r ∷ l) (all_of k g h.1))

differ : (m n : ℕ) → m ≢ n → nat_eq m n ≡ false
differ m n other = grind arith

none_of_others : (j k : ℕ) (g : List Row) → j ≢ k → HaveKey j g → rows_of k g ≡ []
none_of_others j k [] other h = refl
none_of_others j k (r ∷ g) other h =
    rw (differ r.key k (λ e. other (h.0 ∙ e))) (none_of_others j k g other h.1)

none_above : (k : ℕ) (rows : List Row) → AreAbove k rows → rows_of k rows ≡ []
none_above k [] h = refl
none_above k (r ∷ rows) h =
    rw (differ r.key k (λ e. omega (arith, e, h.0))) (none_above k rows h.1)

abbrev first_key : List Row → Option ℕ
first_key rows = option_map (λ r. r.key) (slice_get rows 0)

key_above_at : (b : Bool) (k n : ℕ) (r : Row) (prefix rest : List Row) → k < r.key
    → (first_key rest ≡ Some n → k < n) → first_key (cond b (r ∷ prefix) rest) ≡ Some n → k < n
key_above_at true k n r prefix rest less others first = grind (arith, less, first)
key_above_at false k n r prefix rest less others first = others first

key_above : (k j n : ℕ) (rows : List Row) → AreAbove k rows → first_key (rows_of j rows) ≡ Some n
    → k < n
key_above k j n [] h first = absurd (cc)
key_above k j n (r ∷ rows) h first =
    key_above_at (nat_eq r.key j) k n r (rows_of j rows) (rows_of j rows) h.0
    (key_above k j n rows h.1) first

-- Only the group of a key has rows of it.
rows_behind : (j k : ℕ) (g rows : List Row) → j ≢ k → HaveKey j g
    → rows_of k (g ++ rows) ≡ rows_of k rows
rows_behind j k g rows other h =
    filter-append (λ r. nat_eq r.key k) g rows
    ∙ ap (λ l. l ++ rows_of k rows) (none_of_others j k g other h)

rows_in_front : (k : ℕ) (g rows : List Row) → HaveKey k g → AreAbove k rows
    → rows_of k (g ++ rows) ≡ g
rows_in_front k g rows h above =
    filter-append (λ r. nat_eq r.key k) g rows
    ∙ ap₂ (λ l m. l ++ m) (all_of k g h) (none_above k rows above) ∙ append-nil g

-- The summary s is that of the rows with the key of s.
abbrev Sums : List Row → Summary → Type 0
Sums rows s = IsSummary (rows_of s.key rows) s

push_behind : (j : ℕ) (g rows : List Row) (ss : List Summary) → HaveKey j g → AreAbove j rows
    → AllByRecursion (Sums rows) ss → AllByRecursion (Sums (g ++ rows)) ss
push_behind j g rows [] h above each = tt
push_behind j g rows (s ∷ ss) h above each =
    let less : j < s.key = key_above j s.key s.key rows above each.0.key in
    let same = rows_behind j s.key g rows (λ e. omega (arith, e, less)) h in (
      subst (λ l. IsSummary l s) (sym same) each.0,
      push_behind j g rows ss h above each.1,
    )

keys_less : (j : ℕ) (rows : List Row) (ss : List Summary) → AreAbove j rows
    → AllByRecursion (Sums rows) ss → AllByRecursion (λ k. nat_cmp j k ≡ Less) (map (λ s. s.key) ss)
keys_less j rows [] above each = tt
keys_less j rows (s ∷ ss) above each =
    let less : j < s.key = key_above j s.key s.key rows above each.0.key in
    (grind (arith, less), keys_less j rows ss above each.1)

-- The report, with each of its parts by recursion over the rows or the lines.
record Says (rows : List Row) (lines : List Summary) : Type 0 where
  pub rising : IsStrictlySortedBy nat_cmp (map (λ s. s.key) lines)
  pub all_keys : AllByRecursion (λ r. Contains (map (λ s. s.key) lines) r.key) rows
  pub each : AllByRecursion (Sums rows) lines

contains_later : (k n : ℕ) (ks : List ℕ) → Contains ks n → Contains (k ∷ ks) n
contains_later k n ks h = (suc h.0, omega (arith, h.1), h.2)

both_contain : (j : ℕ) (ks : List ℕ) (g rows : List Row) → HaveKey j g
    → AllByRecursion (λ r. Contains ks r.key) rows
    → AllByRecursion (λ r. Contains (j ∷ ks) r.key) (g ++ rows)
both_contain j ks [] [] h there = tt
both_contain j ks [] (r ∷ rows) h there =
    (contains_later j r.key ks there.0, both_contain j ks [] rows h there.1)
both_contain j ks (r ∷ g) rows h there = (
  (0, omega arith, h.0),
  both_contain j ks g rows h.1 there,
)

says : (gs : List (List Row)) (lines : List Summary) → Rise gs → AreLines gs lines
    → Says (concat gs) lines
unfolding IsStrictlySortedBy
says [] [] rise are = record { rising = tt; all_keys = tt; each = tt }
says [] (s ∷ ss) rise are = absurd are
says (g ∷ gs) [] rise are = absurd are
says ([] ∷ gs) (s ∷ ss) rise are = absurd rise
says ((r ∷ g) ∷ gs) (s ∷ ss) rise are =
    let ih = says gs ss rise.2 are.1 in
    let key : r.key ≡ s.key = grind (arith, are.0.key) in
    let have : HaveKey s.key (r ∷ g) = subst (λ k. HaveKey k (r ∷ g)) key (refl, rise.0) in
    let above : AreAbove s.key (concat gs) = subst (λ k. AreAbove k (concat gs)) key rise.1 in
    record {
      rising = (keys_less s.key (concat gs) ss above ih.each, ih.rising);
      all_keys = both_contain s.key (map (λ s. s.key) ss) (r ∷ g) (concat gs) have ih.all_keys;
      each = (
        subst (λ l. IsSummary l s) (sym (rows_in_front s.key (r ∷ g) (concat gs) have above)) are.0,
        push_behind s.key (r ∷ g) (concat gs) ss have above ih.each,
      );
    }

by_recursion : {X : Type 0} (P : X → Type 0) (xs : List X) → AllByRecursion P xs → All P xs
by_recursion P [] h = All-nil P
by_recursion P (x ∷ xs) h = All-cons P x xs h.0 (by_recursion P xs h.1)

-- If the rows are sorted, the summaries of their groups are the report.
pub is_report : (rows sorted : List Row) (gs : List (List Row)) (lines : List Summary)
    → IsPermutation rows sorted → KeysAscend (λ r. r.key) nat_cmp sorted
    → KeepsTies (λ r. r.key) nat_eq rows sorted → IsDividedBy (λ r. r.key) nat_eq sorted gs
    → AreSummaries gs lines → IsReport rows lines
unfolding IsDividedBy KeepsTies
is_report rows sorted gs lines same ascend ties divided are =
    let rise = rises gs divided.runs divided.breaks
    (ascends (concat gs) (subst (KeysAscend (λ r. r.key) nat_cmp) (sym divided.whole) ascend)) in
    let all : Says sorted lines = subst (λ l. Says l lines) divided.whole
    (says gs lines rise (are_lines gs lines are)) in
    record {
      rising = IsStrictlyIncreasing-from_sorted _ all.rising;
      all_keys = All-permutation (λ r. Contains (map (λ s. s.key) lines) r.key) sorted rows
          (IsPermutation-sym rows sorted same) (by_recursion _ sorted all.all_keys);
      each = λ k d less. subst (λ l. IsSummary l (slice_index_or lines k d))
          (ties (slice_index_or lines k d).key) (by_recursion (Sums sorted) lines all.each
          k d less);
    }
