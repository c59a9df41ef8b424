-- The inner map is taken out of an `NEBTreeMap` and, with other values, put back, for the proofs of
-- `iter_mut` and `lend_values`. The map is then valid again, since the keys and their number stay.
use Rattle.std.specs.declared.cmp.Ord as ord
use Rattle.std.specs.declared.cmp.PartialEq as partial_eq
use Rattle.std.specs.declared.cmp.PartialOrd as partial_ord
use mathlib.Core.Path.{refl, sym, subst}
use Prim.Native.Nat.{ℕ, ◌+◌}
use mathlib.Core.List.{List, [], ◌∷◌}
use seplogic.Ra.Ura.{Ura}
use base.Logic.{SProp, ent, sep, emp, ex, via}
use base.Fraction.{full_share}
use prog.Memory.{align, up}
use types.Logic.{Logic, sem}
use types.Kit.{‵, raw, ◌⊛◌, some, ◌$◌, ◌∵◌, !, qed, split, pick, rewrite, use1, show, done}
use denote.RattleType.{RattleType}
use denote.Memory.{part_at, mem, part_of, lone}
use denote.Param.Laws.{Laws}
use denote.Model.Fields.{view_made, plain_out, Plain-in}
use denote.Struct.Members.{Member}
use denote.Struct.Parts.{PartsBack}
use denote.Struct.Pick.{field_out, field_back}
use Rattle.std.specs.Prelude.{◌<◌}
use Rattle.std.specs.List.Sorted.{IsStrictlySortedBy}
use Rattle.std.specs.BTreeMap.{BTreeMap, values}
use Rattle.std.specs.BTreeMap.Lent.{KeepsKeys, with_values}
use Rattle.std.specs.contracts.alloc.Global as global
use Rattle.std.proofs.alloc.Global.TheLaws as global_laws
use Rattle.std.specs.contracts.impls.GlobalAllocator.TheImpl.{ghosts}
use Rattle.std_collections.specs.contracts.btree_map.BTreeMap as inner
use Rattle.std_collections.proofs.btree_map.BTreeMap.TheLaws as inner_laws
use Rattle.ne_tree.specs.ValidTreeMap.{IsValid}
use Rattle.ne_tree.specs.contracts.btree_map.NEBTreeMap as outer
use Rattle.ne_tree.specs.contracts.btree_map.NEBTreeMap.TheInside as inside
use Rattle.ne_tree.proofs.btree_map.NEBTreeMap.TheLaws as outer_laws

module _ (K V : RattleType) (key : ord.Ghosts K.Denot) (eq : partial_eq.Ghosts K.Denot)
    (partial : partial_ord.Ghosts K.Denot) where
  -- The types of the map, of its field and of the inner map.
  abbrev pub Outer : RattleType
  Outer = outer.the_row K V key eq partial

  abbrev pub Inside : RattleType
  Inside = inside.the_row K V key eq partial

  abbrev pub Inner : RattleType
  Inner = inner.the_row K V global.the_row key eq partial ghosts

  abbrev parts : List Member
  parts = record { row = Inner; ty = lone Inner.mir } ∷ []

  -- Where the inner map is in a map at the offset o.
  abbrev pub inner_at : ℕ → ℕ
  inner_at o = o + up (align (lone Inner.mir)) 0

  module _ {M : Type 1} {𝓤 : Ura M} (𝓛 : Logic 𝓤) (d : BTreeMap K.Denot V.Denot) (b o : ℕ) where
    -- What is left of the map while the inner map is out.
    abbrev pub Left : SProp 𝓤
    Left = sep 𝓤 (emp 𝓤) (PartsBack 𝓛 full_share [] parts b o)

    pub takes_out : Laws K → Laws V → ent 𝓤 (sem 𝓛 ((mem Outer).own_at d b o))
        (ex 𝓤 (λ (_ : IsValid key.cmp d).
        sep 𝓤 (sem 𝓛 ((mem Inner).own_at d b (inner_at o))) Left))
    unfolding part_of
    takes_out LK LV =
        let opens = outer_laws.the_opens K V key eq partial in
        qed 𝓛 (‵ ((mem Outer).own_at d b o) ∷ []) ∵
        use1 𝓛 (some (λ (x : (x : Inside.Denot) × opens.Known d x).
        ‵ (part_at Inside full_share x.0 b o))) (plain_out Outer Inside opens 𝓛 full_share d b o) $
        pick ! (λ x.
        use1 𝓛 (‵ (part_at Inner full_share x.0.inner b (inner_at o)) ⊛ raw Left)
        (field_out 𝓛 full_share [] parts (
          (inner_laws.the_row_laws K V global.the_row key eq partial ghosts LK LV
              global_laws.the_row_laws).lawful 𝓛,
          tt,
        ) (
          x.0.inner,
          tt,
        ) b o 0) $ split ! $
        rewrite ! 0 (λ (m : Inner.Denot). ‵ (part_at Inner full_share m b (inner_at o))) x.1.0
        refl $
        show ! (λ (_ : IsValid key.cmp d).
        sep 𝓤 (sem 𝓛 ((mem Inner).own_at d b (inner_at o))) Left)
        (subst (λ (m : Inner.Denot). IsValid key.cmp m) x.1.0 x.1.1) $ done !)

    -- The inner map with the values of w.
    abbrev pub put : BTreeMap K.Denot V.Denot → BTreeMap K.Denot V.Denot
    put w = with_values d 0 (values w)

    pub puts_back : KeepsKeys d 0 → IsValid key.cmp d → (w : BTreeMap K.Denot V.Denot)
        → ent 𝓤 (sep 𝓤 (sem 𝓛 ((mem Inner).own_at (put w) b (inner_at o))) Left)
        (sem 𝓛 ((mem Outer).own_at (put w) b o))
    unfolding part_of
    puts_back keeps valid w =
        let good : IsValid key.cmp (put w) = (
          subst (λ (n : ℕ). 0 < n) (sym (keeps.1 (values w))) valid.0,
          subst (IsStrictlySortedBy key.cmp) (sym (keeps.0 (values w))) valid.1,
        ) in
        via 𝓤 _ (field_back 𝓛 full_share [] parts (
          put w,
          tt,
        ) b o 0) (Plain-in Outer Inside (outer_laws.the_opens K V key eq partial) 𝓛 full_share
        (put w) (record { inner = put w })
        (view_made Inside (BTreeMap K.Denot V.Denot) Outer.coded
        (outer.the_view K V key eq partial) (outer.the_invariant K V key eq partial) 𝓛 (put w)
        (record { inner = put w }) (refl, good)) b o)
