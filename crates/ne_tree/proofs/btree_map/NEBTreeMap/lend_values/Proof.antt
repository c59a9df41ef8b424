-- `lend_values` borrows the inner map for as long as the map is borrowed.
use mathlib.Core.Path.{◌≡◌, refl}
use Prim.Native.Nat.{ℕ}
use mathlib.Core.List.{List, [], ◌∷◌}
use mir.Val.{Val, vptr}
use mir.Syntax.{Args, Fn, a_type, dcons, dnil, named}
use mir.MapTy.{inst_fn}
use base.Logic.{SProp, emp, id⊢}
use base.Fml.{ftrue, fsep, flft, fauth, Lft}
use base.Share
use types.Kit.{‵, raw, ◌⊛◌, some, later, given, ◌$◌, ◌∵◌, !, qed, by, move, keep, drop, split}
use types.Kit.{split3, join, fsplit, fsplit3, fjoin, fjoin3, fpack, feq_i, pick, learn, await}
use types.Kit.{group, use0, use1, use2}
use types.Run.{enter, addr, stop, fld, no_more, and_then, returns}
use types.ByLocal.{alloc_all, pass_all, free_all, look_at, get, through, sets, lands_as}
use types.Tokens.{name_new}
use types.Late.{ages, bor_new_deep}
use types.Mut.{open_ref}
use types.Follow.{closes_following}
use contract.Fact.{fact_i}
use contract.Monad.{fact}
use contract.Running.{tables}
use contract.BorrowLft.{◌⊑◌}
use denote.RattleType.{RattleType, owns}
use denote.Memory.{mem, part_of}
use denote.Ref.{MutBor, MutRef, mut_vals, mut_Tells}
use denote.Exit.{no}
use denote.Laws.{shows}
use denote.Signature.{plain, mut_ref_to, named_lft}
use denote.Steps.{nothing, peeks, heard}
use denote.Param.{param, bounded}
use denote.Param.Laws.{param_laws}
use denote.Triple.Call.{calls_at}
use denote.Triple.Clauses.{lasts, Lasts}
use denote.Triple.Entry.{on_entry}
use denote.Triple.Spec.{triple_of}
use denote.Triple.Table.{framed}
use denote.Triple.Walked.{Stays, stay_dropped, walk_of, Goes-spent_ref}
use Rattle.std.proofs.raw_atomic.Walks.{proved, leaves}
use Rattle.std.specs.Prelude.{◌<◌, ◌^◌}
use Rattle.std.specs.Iterator.Runs.{YieldsMutRefsInOrder}
use Rattle.std.specs.BTreeMap.{btree_map_len, values}
use Rattle.std.specs.BTreeMap.IterMut.{values_mut_rest, values_mut_name, values_mut_steps}
use Rattle.std.specs.BTreeMap.Lent.{KeepsKeys, with_values}
use Rattle.std_collections.specs.contracts.btree_map.iter.lent.ValuesMut as iter
use Rattle.std_collections.proofs.btree_map.iter.lent.ValuesMut.TheLaws as iter_laws
use Rattle.ne_tree.specs.TreeLends.{LendsValues, LendsValuesInside}
use Rattle.ne_tree.specs.ValidTreeMap.{IsValid}
use Rattle.ne_tree.proofs.ValuesLent.{Inner, Left, Outer, inner_at, puts_back, takes_out}
use Rattle.ne_tree.specs.contracts.btree_map.NEBTreeMap.lend_values as f
use Rattle.ne_tree.proofs.btree_map.NEBTreeMap.lend_values.Statement.{statement}
use Rattle.ne_tree.proofs.btree_map.NEBTreeMap.lend_values.Code as code
use Rattle.ne_tree.specs.contracts.btree_map.inner_values_mut as g
use Rattle.ne_tree.proofs.btree_map.inner_values_mut.Met.{met}

pub lend_values_spec : {M : Type 1} → statement M
unfolding part_of
lend_values_spec 𝓤 𝓛 𝓜 𝓡 wired K V LK LV o₀ d₀ o₁ d₁ o₂ d₂ o₃ d₃ m₀ m₁ m₂ m₃ =
    let 𝓣 = tables 𝓤 𝓛.H 𝓜 𝓡 𝓡.env in
    let En = f.ended K V o₀ d₀ o₁ d₁ o₂ d₂ o₃ d₃ in
    let Gn = g.ended K V o₀ d₀ o₁ d₁ o₂ d₂ o₃ d₃ in
    let c = f.clauses K V o₀ d₀ o₁ d₁ o₂ d₂ o₃ d₃ 𝓛 𝓜.mem 𝓡.returns in
    let G =
    triple_of 𝓛 (g.signature K V o₀ d₀ o₁ d₁ o₂ d₂ o₃ d₃)
    (g.spec K V o₀ d₀ o₁ d₁ o₂ d₂ o₃ d₃ 𝓛 𝓜.mem 𝓡.returns) in
    let R : RattleType = Outer (param 0 K) (param 1 V) o₀ o₂ o₃ in
    let F : RattleType = Inner (param 0 K) (param 1 V) o₀ o₂ o₃ in
    let args : Args =
    bounded (a_type ∷ a_type ∷ []) (
      K,
      (V, tt),
    ) (dcons d₀ (dcons d₁ (dcons d₂ (dcons d₃ dnil)))) in
    let fn : Fn = inst_fn args code.function in
    let hs : Stays En.signature.params En.kept =
    (stay_dropped (mut_ref_to (0 ∷ []) tt (plain (λ _. R))) no, tt) in
    let W = walk_of 𝓛 En hs c in
    proved 𝓛 En hs c 𝓜 𝓡 (
      Goes-spent_ref 𝓛 3 (0 ∷ []) tt (plain (λ _. R)),
      tt,
    ) (f.Key.name args) fn (code.unfolded 𝓤 𝓛.H 𝓜 𝓡 wired (K, (V, tt)) d₀ d₁ d₂ d₃)
    (λ κs. (mut_vals, tt)) (λ κs. (mut_Tells (named 0) κs.0 R, tt)) (λ κs qs bounds a gh are.
    let κ : Lft = κs.0 in let q = qs.0 in
    let b = a.0.ref_ptr.0 in let o = a.0.ref_ptr.1 in let d = a.0.now in let vs = mut_vals a.0 in
    let fo : ℕ = inner_at (param 0 K) (param 1 V) o₀ o₂ o₃ o in
    let y : W.Ghost = ((κs, qs, bounds, a, (vs, tt)), gh) in
    let Back : SProp 𝓤 = Left (param 0 K) (param 1 V) o₀ o₂ o₃ 𝓛 d b o in
    let It : RattleType = iter.the_row (named_lft 3 0 tt κs) (param 0 K) (param 1 V) in
    let toks = ‵ (flft κs.1.0 qs.1.0) ⊛ ‵ (flft κs.1.1.0 qs.1.1.0) ⊛ ‵ ftrue in
    qed 𝓛 (raw (on_entry 𝓛 En.signature κs qs a (vs, tt)) ∷ (given (κs.1.0 ⊑ K.lives) (‵ ftrue)
    ⊛ given (κs.1.1.0 ⊑ V.lives) (‵ ftrue) ⊛ ‵ ftrue) ∷ []) ∵
    move ! (1 ∷ []) $ split3 ! $ learn ! (λ ik. drop ! $ learn ! (λ iv. drop ! $ drop ! $
    use1 𝓛 ((‵ (flft κ q) ⊛ toks) ⊛ ‵ (owns (MutRef (named 0) κ R ∷ []) a (vs, tt))) (id⊢ 𝓤 _) $
    split ! $ split ! $ move ! (2 ∷ []) $ fsplit ! $ fsplit3 ! $ keep ! (1 ∷ 2 ∷ 4 ∷ 5 ∷ []) $
    enter ! 𝓣.C 𝓣.Λ fn (vs) (W.post y) $ alloc_all ! (λ l. pass_all ! refl ((tt, tt), tt) $
    -- [obs; the borrow; the token of κ; the other tokens]
    move ! (2 ∷ []) $ use1 𝓛 (‵ (flft κ (Share.left q))
    ⊛ ‵ (flft κ (Share.right q))) (𝓛.lfts.lft_split κ q) $ split ! $
    move ! (2 ∷ 3 ∷ 1 ∷ []) $ open_ref ! tt (mem R) {x = d} {b = b} {o = o} $
    use1 𝓛 (some (λ (_ : IsValid o₀.cmp d). ‵ ((mem F).own_at d b fo) ⊛ raw Back))
    (takes_out (param 0 K) (param 1 V) o₀ o₂ o₃ 𝓛 d b o (param_laws 0 K LK) (param_laws 1 V LV)) $
    pick ! (λ valid. split ! $
    -- [the inner map; Back; the open borrow; obs; auth; left token; other tokens]
    name_new ! tt (F.coded.code d) (λ δ. move ! (2 ∷ 1 ∷ []) $ fjoin ! $
    fpack ! F.Denot (λ m. fsep ((mem F).own_at m b fo) (fauth δ (F.coded.code m))) d $
    move ! (3 ∷ []) $ ages ! (λ n. move ! (1 ∷ []) $ bor_new_deep ! tt n κ $
    -- [the new borrow; what the lender keeps; aged; obs δ; Back; obs; auth; left token; other
    -- tokens]
    sets ! (addr ! (through ! refl (fld ! refl (stop !)))) refl (tt, tt) $
    move ! (3 ∷ 0 ∷ []) $ feq_i ! (List Val) (vptr b fo ∷ []) (vptr b fo ∷ []) refl $ fjoin3 ! $
    -- [the reference to the inner map; what the lender keeps; aged; Back; obs; auth; left token;
    -- other tokens]
    let ka : MutBor F.Denot = record { ref_ptr = (b, fo); ghost_name = δ; now = d } in
    let z : G.Ghost = ((κs, (Share.left q, qs.1), bounds, (ka, tt), (vptr b fo ∷ [], tt)), tt) in
    nothing ! $ move ! (1 ∷ 0 ∷ []) $ join ! $ move ! (6 ∷ 7 ∷ []) $ join ! $ join ! $
    nothing ! $ use0 𝓛 (given (κs.1.1.0 ⊑ V.lives) (‵ ftrue)) (fact_i 𝓤 _ (emp 𝓤) iv) $ join ! $
    use0 𝓛 (given (κs.1.0 ⊑ K.lives) (‵ ftrue)) (fact_i 𝓤 _ (emp 𝓤) ik) $ join ! $
    move ! (1 ∷ 0 ∷ []) $
    use2 𝓛 (raw (G.pre z)) (id⊢ 𝓤 _) $
    calls_at ! (framed 𝓤 𝓛.H 𝓜 𝓣) G
    (met 𝓤 𝓛 𝓜 𝓡
    (code.calls-ne_tree::btree_map::inner_values_mut 𝓡.env wired) K V LK LV o₀ d₀ o₁ d₁ o₂
    d₂ o₃ d₃ m₀ m₁ m₂ m₃) z (and_then ! (get ! refl) (no_more !)) (λ v.
    use1 𝓛 (later (some (λ (it : It.Denot). ((‵ (flft κ (Share.left q)) ⊛ toks)
    ⊛ ‵ (It.own_val it (v ∷ []))) ⊛
    some (λ (ws : Lasts Gn κs (ka, tt)). ‵ (lasts Gn κs (ka, tt) ws)
    ⊛ ‵ (LendsValuesInside (param 0 K) (param 1 V)
    (f.K-Ord-whole K V o₀ d₀ o₁ d₁ o₂ d₂ o₃ d₃) ka (values_mut_name it))
    ⊛ raw (fact 𝓤 (KeepsKeys d 0))
    ⊛ raw (fact 𝓤 (values_mut_rest it ≡ values d))
    ⊛ raw (fact 𝓤 (btree_map_len d < 2 ^ 63))
    ⊛ raw (fact 𝓤 (YieldsMutRefsInOrder (values_mut_steps {K = K.Denot} {X = V.Denot})
    (values_mut_rest {K = K.Denot} {X = V.Denot})))))))
    (id⊢ 𝓤 _) $
    await ! tt $
    pick ! (λ it. split ! $ split ! $ move ! (2 ∷ []) $
    pick ! (λ ws. split ! $ drop ! $ split ! $ move ! (1 ∷ []) $
    split ! $
    heard ! _ (λ keeps. split ! $
    heard ! _ (λ rest. split ! $
    heard ! _ (λ fits. heard ! _ (λ run.
    -- [what follows; the tokens; the iterator; what the lender keeps; aged; Back; obs; auth]
    let put : F.Denot → F.Denot = λ w. with_values d 0 (values w) in
    let back = puts_back (param 0 K) (param 1 V) o₀ o₂ o₃ 𝓛 d b o keeps valid in
    move ! (4 ∷ 6 ∷ 7 ∷ 3 ∷ 0 ∷ 5 ∷ []) $ group ! 6 $
    use1 𝓛 (later (‵ (flft κ (Share.right q))
    ⊛ ‵ (LendsValues (param 0 K) (param 1 V)
    (f.K-Ord-whole K V o₀ d₀ o₁ d₁ o₂ d₂ o₃ d₃) a.0 (values_mut_name it))))
    (closes_following 𝓛 (mem R) (mem F) (mem F) put put κ (Share.right q) b o b fo a.0.ghost_name δ
    (values_mut_name it) Back back n (R.coded.code d) (R.coded.code d)) $ await ! tt $ split ! $
    -- [the right token; what follows; the left tokens; the iterator]
    move ! (2 ∷ []) $ split ! $ move ! (0 ∷ 2 ∷ []) $ use2 𝓛 (‵ (flft κ q)) (𝓛.lfts.lft_join κ q) $
    -- [the token; the other tokens; what follows; the iterator]
    move ! (3 ∷ []) $ peeks ! It _ (shows 𝓛 It) it (v ∷ []) (λ is.
    lands_as ! refl refl
    (((iter_laws.the_row_laws (named_lft 3 0 tt κs) (param 0 K) (param 1 V) (param_laws 0 K LK)
    (param_laws 1 V LV)).lawful 𝓛).typed it (v ∷ []) is).0 $
    returns ! (look_at ! 0 refl) $ free_all ! refl $
    -- [the iterator; the token; the other tokens; what follows]
    use0 𝓛 (raw (fact 𝓤 (IsValid o₀.cmp d))) (fact_i 𝓤 _ (emp 𝓤) valid) $
    use0 𝓛 (raw (fact 𝓤 (YieldsMutRefsInOrder (values_mut_steps {K = K.Denot} {X = V.Denot})
    (values_mut_rest {K = K.Denot} {X = V.Denot}))))
    (fact_i 𝓤 _ (emp 𝓤) run) $ join ! $
    use0 𝓛 (raw (fact 𝓤 (btree_map_len d < 2 ^ 63))) (fact_i 𝓤 _ (emp 𝓤) fits) $ join ! $
    use0 𝓛 (raw (fact 𝓤 (values_mut_rest it ≡ values d))) (fact_i 𝓤 _ (emp 𝓤) rest) $ join ! $
    use0 𝓛 (raw (fact 𝓤 (KeepsKeys d 0))) (fact_i 𝓤 _ (emp 𝓤) keeps) $ join ! $
    move ! (4 ∷ 0 ∷ []) $ join ! $
    -- [the ensures; the iterator; the token; the other tokens]
    nothing ! $ nothing ! $ fjoin ! $ move ! (3 ∷ 4 ∷ []) $ join ! $
    -- [the tokens; nothing; the ensures; the iterator]
    keep ! (0 ∷ 1 ∷ 3 ∷ 2 ∷ []) $ by ! (leaves 𝓛 En hs c y v it (tt, tt) (tt, tt)))))))))))))))))
