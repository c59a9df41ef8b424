-- `chain`: from a run of its iterator to the list that it yields.
use Rattle.std.specs.Iterator.Adapters as std
use Rattle.std.proofs.Common.{rules, subst, ap, refl, arith, sym, ◌∙◌, append_assoc}
use Rattle.std.specs.Prelude.{◌≡◌, List, [], ◌∷◌, length, Option, Some, None, Bool, true, false}
use Rattle.std.specs.Prelude.{◌++◌, ltb, ◌||◌, MatchOption, map}
use Rattle.std.specs.Iterator.{DrainsIf, Yields}
use Rattle.std.specs.Iterator.Adapters.{chain_first, chain_second, chain_first_done}
use Rattle.std.specs.Iterator.Adapters.{chain_second_done, chain_steps, SecondAnswers}
use Rattle.std.specs.declared.iter.Chain.{Chain}
use Rattle.std.proofs.iter.runs.Adapters.{Chain-runs}
use Rattle.std.proofs.lemmas.Bool.{MatchBool-at_true, MatchBool-at_false, lt-ltb, or_left, or_right}
use Rattle.std.proofs.lemmas.List.{append-nil, length-map, map-append}
use Rattle.ne_vec.specs.Lists.{IsPrefix, Lists, YieldsThrough, EachView, View}
use Rattle.ne_vec.specs.ListLaws.{triggered}
use Rattle.ne_iter.specs.Sources.{ReadsListThrough, EachReading, Reads}
use Rattle.ne_iter.specs.Chain.{IsChained, ChainsLists, ChainsRuns}
use Rattle.ne_iter.specs.SourceLists.{MeetsList}
use Rattle.ne_iter.specs.LoopLaws.{reads_through}
use Rattle.ne_iter.proofs.SourceLists.{through_reads, meets_read, each_view}

module _ {S T A : Type 0} (steps : S → Option A → S → Type 0) (others : T → Option A → T → Type 0)
  where
    -- The first side has ended.
    DrainsIf-chain_second : {W : Type 0} (s : Chain S T) (zs : List A) → chain_first_done s ≡ true
        → chain_second_done s ≡ false
        → DrainsIf (chain_steps steps others) W s zs → DrainsIf others W (chain_second s) zs
    DrainsIf-chain_second s [] done live (t, e, fin) =
        let first : chain_first_done t ≡ true = subst (λ q. chain_first_done q ≡ true) e done in
        let second : chain_second_done t ≡ false = subst (λ q. chain_second_done q ≡ false) e live
        in (
          chain_second t,
          ap chain_second e,
          λ w. let u = (fin w).0 in (
            chain_second u,
            MatchBool-at_false _ _ second
                (MatchBool-at_true _ _ first (fin w).1.1).0,
          ),
        )
    DrainsIf-chain_second s (z ∷ zs) done live (t, (j, st, rest), fin) =
        let h = MatchBool-at_true _ _ done st.1 in
        let ih = DrainsIf-chain_second j zs h.1 (let a = st.0 in cc) (t, rest, fin) in
        (ih.0, (chain_second j, MatchBool-at_false _ _ live h.0, ih.1), ih.2)

    abbrev Parts : Bool → Chain S T → List A → Type 0
    Parts whole s zs = (xs : List A) × (ys : List A)
        × DrainsIf steps ((whole || ltb 0 (length ys)) ≡ true) (chain_first s) xs
        × DrainsIf others (whole ≡ true) (chain_second s) ys × (zs ≡ xs ++ ys)

    -- The first call, if it yields an item z.
    first_gave : (whole : Bool) (s j : Chain S T) (z : A) (zs : List A) (o : Option A)
        → chain_second_done s ≡ false → chain_second_done j ≡ chain_second_done s
        → steps (chain_first s) o (chain_first j)
        → MatchOption o (SecondAnswers steps others s (Some z) j)
        (λ x. (Some z ≡ Some x) × (chain_second j ≡ chain_second s)
        × (chain_first_done j ≡ false))
        → DrainsIf (chain_steps steps others) (whole ≡ true) j zs
        → (chain_first_done j ≡ false → Parts whole j zs) → Parts whole s (z ∷ zs)
    first_gave whole s j z zs None live kept st h rest more =
        let there = MatchBool-at_false _ _ live h.0 in
        let tail = DrainsIf-chain_second j zs h.1 (let a = kept in cc) rest in (
          [],
          z ∷ zs,
          (chain_first s, refl, λ _. (chain_first j, st)),
          (tail.0, (chain_second j, there, tail.1), tail.2),
          refl,
        )
    first_gave whole s j z zs (Some x) live kept st h rest more =
        let p = more h.2 in (
          x ∷ p.0,
          p.1,
          (p.2.0, (chain_first j, st, p.2.1), p.2.2),
          subst (λ q. DrainsIf others (whole ≡ true) q p.1) h.1 p.3,
          (let a = h.0 in let b = p.4 in cc),
        )

    -- The end, if the second side yielded no item.
    none_came : (s j : Chain S T) (o : Option A) → chain_second_done s ≡ false
        → steps (chain_first s) o (chain_first j)
        → MatchOption o (SecondAnswers steps others s None j)
        (λ x. (None ≡ Some x) × (chain_second j ≡ chain_second s) × (chain_first_done j ≡ false))
        → ((u : S) × steps (chain_first s) None u) × ((v : T) × others (chain_second s) None v)
    none_came s j None live st h = (
      (chain_first j, st),
      (chain_second j, MatchBool-at_false _ _ live h.0),
    )
    none_came s j (Some x) live st h = let e = h.0 in search rules

    pub DrainsIf-chain : (whole : Bool) (s : Chain S T) (zs : List A) → chain_first_done s ≡ false
        → chain_second_done s ≡ false
        → DrainsIf (chain_steps steps others) (whole ≡ true) s zs → Parts whole s zs
    DrainsIf-chain true s [] fresh live (t, e, fin) =
        let end = MatchBool-at_false _ _ (subst (λ q. chain_first_done q ≡ false) e fresh)
        (fin refl).1.1 in
        let both = none_came t (fin refl).0 end.0 (subst (λ q. chain_second_done q ≡ false) e live)
        end.1 end.2 in (
          [],
          [],
          (chain_first t, ap chain_first e, λ _. both.0),
          (chain_second t, ap chain_second e, λ _. both.1),
          refl,
        )
    DrainsIf-chain false s [] fresh live (t, e, fin) = (
      [],
      [],
      (chain_first s, refl, λ w. let w = w in search rules),
      (chain_second s, refl, λ w. let w = w in search rules),
      refl,
    )
    DrainsIf-chain whole s (z ∷ zs) fresh live (t, (j, st, rest), fin) =
        let h = MatchBool-at_false _ _ fresh st.1 in
        first_gave whole s j z zs h.0 live st.0 h.1 h.2 (t, rest, fin)
        (λ q. DrainsIf-chain whole j zs q (let a = st.0 in cc) (t, rest, fin))

-- The chain of two iterators, of which the first may have ended.
abbrev pub chain_of : {S T : Type 0} → S → T → Bool → Chain S T
chain_of i j done = record { a = i; b = j; a_done = done; b_done = false }

pub chains_runs : {S T A : Type 0} (steps : S → Option A → S → Type 0)
    (others : T → Option A → T → Type 0) (a : S) (b : T) (it : Chain S T)
    → std.ChainsRuns steps others a b it → ChainsRuns steps others a b it
chains_runs steps others a b it runs p seen from =
    let h = runs p seen from in
    let i = h.2 in
    let r = i.2 in
    (h.0, h.1, (i.0, i.1, (r.0, r.1, r.2, r.3)))

module _ {S T A : Type 0} (steps : S → Option A → S → Type 0) (others : T → Option A → T → Type 0)
  where
    chain_of_runs : (i : S) (j : T) → ChainsRuns steps others i j (chain_of i j false)
    chain_of_runs i j = chains_runs steps others i j (chain_of i j false)
        (Chain-runs steps others (chain_of i j false) i refl refl refl)

    -- What holds of two iterators, and then of their chain.
    pub begins_chain : {P Q : Type 0} (i : S) (j : T) → P → Q → P × Q × (false ≡ false)
        × (false ≡ false) × ChainsRuns steps others i j (chain_of i j false)
    begins_chain i j p q = (p, q, refl, refl, chain_of_runs i j)

    only_second : (i : S) (ys : List A) (j t : T) → Yields others j ys t
        → Yields (chain_steps steps others) (chain_of i j true) ys (chain_of i t true)
    only_second i [] j t e = ap (λ q. chain_of i q true) e
    only_second i (y ∷ ys) j t (k, st, more) = (
      chain_of i k true,
      (refl, (st, refl)),
      only_second i ys k t more,
    )

    -- The first list, so far.
    pub only_first : (i : S) (j : T) (us : List A) (k : S) → Yields steps i us k
        → Yields (chain_steps steps others) (chain_of i j false) us (chain_of k j false)
    only_first i j [] k e = ap (λ q. chain_of q j false) e
    only_first i j (u ∷ us) k (m, st, more) = (
      chain_of m j false,
      (refl, (Some u, st, (refl, refl, refl))),
      only_first m j us k more,
    )

    -- The first list to its end, and then the second.
    pub DrainsIf-chained : (done : Type 0) (us ys : List A) (i i' i'' : S) (j : T)
        → Yields steps i us i' → steps i' None i'' → DrainsIf others done j ys
        → DrainsIf (chain_steps steps others) done (chain_of i j false) (us ++ ys)
    DrainsIf-chained done [] [] i i' i'' j e f (t, g, h) = (
      chain_of i j false,
      refl,
      λ d. (
        chain_of i'' (h d).0 true,
        (
          refl,
          (
            None,
            subst (λ q. steps q None i'') (sym e) f,
            (subst (λ q. others q None (h d).0) (sym g) (h d).1, refl),
          ),
        ),
      ),
    )
    DrainsIf-chained done [] (y ∷ ys) i i' i'' j e f (t, (k, st, more), h) = (
      chain_of i'' t true,
      (
        chain_of i'' k true,
        (refl, (None, subst (λ q. steps q None i'') (sym e) f, (st, refl))),
        only_second i'' ys k t more,
      ),
      λ d. (chain_of i'' (h d).0 true, (refl, ((h d).1, refl))),
    )
    DrainsIf-chained done (x ∷ us) ys i i' i'' j (k, st, more) f g =
        let r = DrainsIf-chained done us ys k i' i'' j more f g in (
          r.0,
          (chain_of k j false, (refl, (Some x, st, (refl, refl, refl))), r.1),
          r.2,
        )

-- The first list is read to its end before the second yields an item.
pub append_prefix : {A : Type 0} (whole : Bool) (xs ys us vs : List A)
    → IsPrefix (whole || ltb 0 (length vs)) xs us → IsPrefix whole ys vs
    → IsPrefix whole (xs ++ ys) (us ++ vs)
append_prefix whole xs ys us [] f g = (
  f.0 ++ g.0,
  ap (λ l. l ++ ys) f.1 ∙ ap (λ l. (us ++ f.0) ++ l) g.1 ∙ append_assoc us f.0 g.0
      ∙ ap (λ l. l ++ (f.0 ++ g.0)) (sym (append-nil us)),
  λ w. ap (λ l. l ++ g.0) (f.2 (or_left whole false w)) ∙ g.2 w,
)
append_prefix whole xs ys us (v ∷ vs) f g =
    let all = f.2 (or_right whole _ (lt-ltb 0 (length (v ∷ vs)) (omega arith))) in (
      g.0,
      ap (λ l. l ++ ys) (f.1 ∙ ap (λ l. us ++ l) all ∙ append-nil us)
          ∙ ap (λ l. us ++ l) g.1 ∙ sym (append_assoc us (v ∷ vs) g.0),
      g.2,
    )

module _ {U W V S R T A : Type 0} {becomes : U → S → Type 0} {steps : S → Option A → S → Type 0}
    {meets : W → R → Type 0} {made : V → T → Type 0} {u : U} {w : W} {v : V} where
  module _ {other : R → Option A → R → Type 0} {next : T → Option A → T → Type 0}
      (gives : EachReading (Reads made next) v (IsChained (Reads becomes steps) (Reads meets other)
      u w)) where
    pub chain_view : {B : Type 0} (view : A → B) (xs ys : List B)
        → ReadsListThrough (Reads becomes steps) view u xs → ReadsListThrough (Reads meets other)
        view w ys
        → ReadsListThrough (Reads made next) view v (xs ++ ys)
    chain_view view xs ys first second whole zs read =
        let parts = gives whole zs read in
        let us = parts.items in
        let vs = parts.other_items in
        let long = sym (length-map vs view) in
        subst (IsPrefix whole (xs ++ ys))
        (sym (map-append view us vs) ∙ sym (ap (map view) parts.is))
        (append_prefix whole xs ys (map view us) (map view vs)
        (subst (λ len. IsPrefix (whole || ltb 0 len) xs (map view us)) long
        (first _ us parts.read)) (second whole vs parts.read_other))

-- Two sources, one after the other.
pub chains_lists : {U W V S R T A : Type 0} {becomes : U → S → Type 0}
    {steps : S → Option A → S → Type 0} {meets : W → R → Type 0}
    {other : R → Option A → R → Type 0} {made : V → T → Type 0} {next : T → Option A → T → Type 0}
    {u : U} {w : W} {v : V} (view : View A)
    → EachReading (Reads made next) v (IsChained (Reads becomes steps) (Reads meets other) u w)
    → EachView view (λ view. Lists becomes steps view.of) u (λ view xs.
    ChainsLists (Lists meets other view.of) (MeetsList meets other view) w xs
    (YieldsThrough made next view.of v))
chains_lists {meets = meets} {other = other} {made = made} {next = next} {w = w} {v = v} view gives
    =
    each_view (λ view xs. ChainsLists (Lists meets other view.of) (MeetsList meets other view) w xs
    (YieldsThrough made next view.of v)) view (λ view xs first. (
      (λ ys second. (
        triggered w ys,
        through_reads made next v view.of (xs ++ ys) (chain_view gives view.of xs ys first
            (reads_through meets other w view.of ys second)),
      )),
      λ ys. (
        refl,
        λ second. through_reads made next v view.of (xs ++ ys) (chain_view gives view.of xs ys first
            (meets_read meets other w view ys second)),
      ),
    ))
