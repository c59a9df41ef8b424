use Rattle.ne_vec.proofs.vector.retain.move_kept_to_front.Goals as goal
use Rattle.std.proofs.Common.{◌<◌, ◌+◌, length, set, subst, sym, refl, arith, length-set}
use Rattle.std.proofs.Common.{◌∙◌, drop-set-lt}
use Rattle.std.specs.Fn.{CalledAtMut}
use Rattle.std.proofs.lemmas.Bool.{OnTrue_at}
use Rattle.std.proofs.lemmas.List.{get_or_default}
use Rattle.std.proofs.RetainMut.{Called-Mut, retain_mut_end}
use Rattle.ne_vec.proofs.Sifts.{InTurn, retained, passed_over, stayed, items_in_turn}
use Rattle.ne_vec.proofs.Sifts.{next_turn}
use Rattle.ne_vec.proofs.vector.retain.move_kept_to_front.Goals.{else-f, else-loop-kept-test}
use Rattle.ne_vec.proofs.vector.retain.move_kept_to_front.Goals.{else-stays, then-f, then-stays}
use Rattle.ne_vec.proofs.vector.retain.move_kept_to_front.Goals.{
  then-loop-kept-test+else-seen-items,
}

pub loop-kept-init : goal.loop-kept-init
loop-kept-init g c = record {
  low = omega arith;
  within = omega arith;
  turns = items_in_turn g.F.FnMut c.args.f c.args.items.now c.requires;
  sifted = (refl, λ zs r. r);
}

pub f-requires : goal.f-requires
f-requires g c =
    let at = c.loop-kept in
    let within : at.seen < length at.items = omega arith in
    (next_turn g.F.FnMut at.f at.items at.seen _ within
    (get_or_default at.items at.seen _ _ within) at.invariant.turns).0 _ refl

pub loop-kept-smaller : goal.loop-kept-smaller
loop-kept-smaller g c = omega (arith, length-set {A = g.row.T.Denot})

pub loop-kept-preserved : goal.loop-kept-preserved
loop-kept-preserved g c =
    let at = c.loop-kept in
    let R = CalledAtMut g.F.FnMut in
    let called = Called-Mut g.F.FnMut c.f.ensures in
    let within : at.seen < length at.items = c.if-seen-items.true in
    let there = get_or_default at.items at.seen _ _ within in
    let y = c.f.new.arg2 in
    let after = subst (InTurn g.F.FnMut c.f.new.self)
    (sym (drop-set-lt (at.seen + 1) at.items at.seen y (omega arith)))
    ((next_turn g.F.FnMut at.f at.items at.seen _ within there at.invariant.turns).1 _ _ _ called)
    in
    elim c.if-f.branch [
      | then-f w ↦ rw w.kept-is record {
        low = omega arith;
        within = omega (arith, length-set {A = g.row.T.Denot});
        turns = after;
        sifted = stayed R c.args.f c.args.items.now at.f _ at.items at.kept at.seen _ _
            at.invariant.low within there at.invariant.sifted c.loop-kept-test.true
            (rw w.if-f.true at called);
      }
      | else-f w ↦ rw w.kept-is record {
        low = omega arith;
        within = omega (arith, length-set {A = g.row.T.Denot});
        turns = after;
        sifted = passed_over R c.args.f c.args.items.now at.f _ at.items at.kept at.seen _ _
            at.invariant.low within there at.invariant.sifted (set at.items at.seen y) refl refl
            (rw w.if-f.false at called);
      }
    ]

pub loop-i-init : goal.loop-i-init
loop-i-init g c =
    let at = c.loop-kept in record {
      low = at.invariant.low;
      gone = λ more. elim c.loop-kept-test.branch [
        | then-loop-kept-test+else-seen-items w ↦ omega (arith, more, w.if-seen-items.false)
        | else-loop-kept-test w ↦ omega (arith, w.loop-kept-test.false, at.invariant.low)
      ];
      turns = at.invariant.turns;
      sifted = at.invariant.sifted;
    }

pub f-stays-requires : goal.f-stays-requires
f-stays-requires g c =
    let at = c.loop-i in
    let within : at.i < length at.items = omega arith in
    (next_turn g.F.FnMut at.f at.items at.i _ within (get_or_default at.items at.i _ _ within)
    at.invariant.turns).0 _ refl

pub sift-requires : goal.sift-requires
sift-requires g c = (
  c.loop-i.invariant.gone (omega arith),
  omega (arith, length-set {A = g.row.T.Denot}),
)

pub loop-i-preserved : goal.loop-i-preserved
loop-i-preserved g c =
    let at = c.loop-i in
    let R = CalledAtMut g.F.FnMut in
    let called = Called-Mut g.F.FnMut c.f-stays.ensures in
    let within : at.i < length at.items = omega arith in
    let behind = at.invariant.gone within in
    let there = get_or_default at.items at.i _ _ within in
    let y = c.f-stays.new.arg2 in
    let after = subst (InTurn g.F.FnMut c.f-stays.new.self)
    (sym (drop-set-lt (at.i + 1) at.items at.i y (omega arith))
    ∙ sym c.sift.ensures.past)
    ((next_turn g.F.FnMut at.f at.items at.i _ within there at.invariant.turns).1 _ _ _ called) in
    elim c.if-stays.branch [
      | then-stays w ↦ rw w.kept-is record {
        low = omega arith;
        gone = λ _. omega (arith, behind);
        turns = after;
        sifted = rw (OnTrue_at w.if-stays.true c.sift.ensures.after) (retained R c.args.f
            c.args.items.now at.f _ at.items at.kept at.i _ _ at.invariant.low within there
            at.invariant.sifted (rw w.if-stays.true at called));
      }
      | else-stays w ↦ rw w.kept-is record {
        low = omega arith;
        gone = λ _. omega (arith, behind);
        turns = after;
        sifted = passed_over R c.args.f c.args.items.now at.f _ at.items at.kept at.i _ _
            at.invariant.low within there at.invariant.sifted c.sift.new.items
            c.sift.ensures.front c.sift.ensures.past (rw w.if-stays.false at called);
      }
    ]

pub returns-clause-called : goal.returns-clause-called
returns-clause-called g c =
    let at = c.loop-i in
    retain_mut_end (CalledAtMut g.F.FnMut) _ _ at.f at.items at.kept at.i (omega arith)
    at.invariant.sifted
