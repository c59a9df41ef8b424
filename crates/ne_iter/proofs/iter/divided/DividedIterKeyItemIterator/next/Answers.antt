use Rattle.ne_iter.proofs.iter.divided.DividedIterKeyItemIterator.next.Goals as goal
use Rattle.std.proofs.Common.{arith, refl, sym, subst, ◌∙◌, ◌≡◌, ◌+◌, ◌≤◌, [], ◌∷◌, ◌++◌}
use Rattle.std.proofs.lemmas.List.Elements.{Contains-append_left, Contains-push}
use Rattle.std.specs.Iterator.{size}
use Rattle.ne_iter.specs.Grouping.{Grouping}
use Rattle.ne_iter.specs.declared.iter.divided.State.TheVariants.{Unread, Held}
use Rattle.ne_iter.specs.GroupingRuns.{CanRead, HasRead, items_held, runs_left}
use Rattle.ne_iter.proofs.Groupings.{open_held, open_first, open_more, close_held, close_end}
use Rattle.ne_iter.proofs.Groupings.{first_is_there, held_is_not_over, unread_is_not_over}
use Rattle.ne_iter.proofs.iter.divided.DividedIterKeyItemIterator.next.Goals.{in-Held}
use Rattle.ne_iter.proofs.iter.divided.DividedIterKeyItemIterator.next.Goals.{
  in-Unread+in_ok-item-in-Unread+in-Ok,
}

pub loop-item-init : goal.loop-item-init
loop-item-init g c =
    let steps = g.I.Iterator.next_gives in
    let how = g.C.Division.how in
    let laws = g.met.C.Division in
    let left = g.I.Iterator.remaining in
    let at = c.self.inside in
    let begun : Grouping _ _ _ _ = record { source = at.iter; closure = at.f; state = at.state } in
    let ready = subst (CanRead g.I.Iterator.can_next left g.C.Division.callable)
    (sym c.self.view_is) c.requires in
    elim c.match-replace.branch [
      | in-Held w ↦
          let there : at.state ≡ Held w.in-Held.key w.in-Held.item = sym c.replace.ensures.value
          ∙ w.in-Held.is in
          let e : c.args.self.now.state ≡ Held w.in-Held.key w.in-Held.item = subst
          (λ v. v.state ≡ Held w.in-Held.key w.in-Held.item) c.self.view_is there in
          let can = ready (held_is_not_over there) in
          rw (c.in-Ok-new.ensures, w.first_key-is, w.self-inside-is, c.replace.ensures.after) (
            λ s f rs h. open_held steps how laws.steady s f rs begun w.in-Held.item w.in-Held.key
                (subst (HasRead steps how s f rs) (sym c.self.view_is) h) there,
            refl,
            held_is_not_over e,
            subst (λ a. g.C.Division.callable (items_held a) at.iter at.f) there can.2,
            can.0,
            can.1,
            subst (λ v. size (left at.iter) + 1 ≤ size (runs_left left v)) c.self.view_is
                (rw there (omega arith)),
          )
      | in-Unread+in_ok-item-in-Unread+in-Ok w ↦
          let fresh : at.state ≡ Unread = sym c.replace.ensures.value ∙ w.in-Unread.is in
          let e : c.args.self.now.state ≡ Unread = subst (λ v. v.state ≡ Unread) c.self.view_is
          fresh in
          let can = ready (unread_is_not_over fresh) in
          let first = w.in_ok-item-in-Unread.ensures in
          rw (c.in-Ok-new.ensures, w.first_key-is, w.self-inside-is, c.replace.ensures.after) (
            λ s f rs h. open_first steps how laws.steady s f rs begun _ _ _ _
                (subst (HasRead steps how s f rs) (sym c.self.view_is) h)
                fresh first.steps w.in-Ok.ensures,
            refl,
            unread_is_not_over e,
            laws.more [] _ _ _ _ _ _ (subst (λ a. g.C.Division.callable (items_held a) at.iter at.f)
                fresh can.2) first.steps w.in-Ok.ensures,
            (first.goes.on can.1).0,
            (first.goes.on can.1).1,
            subst (λ v. size (left w.next.new.self) + 1 ≤ size (runs_left left v)) c.self.view_is
                (rw fresh (omega (arith, (first.goes.on can.1).2))),
          )
    ]

pub goes_on-goes_on-requires : goal.goes_on-goes_on-requires
goes_on-goes_on-requires g c = (
  c.loop-item.run ++ c.in-Some.item ∷ [],
  c.next-in-loop-item.new.self,
  g.met.C.Division.more _ _ _ _ _ _ _ c.loop-item.invariant.3 c.in-Some.ensures.steps
      c.in-Ok-key.ensures,
  Contains-append_left c.loop-item.run (c.in-Some.item ∷ []) _
      (first_is_there c.loop-item.run _ c.first.ensures),
  Contains-push c.loop-item.run c.in-Some.item,
)

pub loop-item-preserved : goal.loop-item-preserved
loop-item-preserved g c =
    let i = c.loop-item.invariant in
    let came = c.in-Some.ensures in
    let laws = g.met.C.Division in (
      λ s f rs h. rw c.in-Ok-push.ensures.added
          (open_more g.I.Iterator.next_gives g.C.Division.how laws.steady s f rs _ _ _ _ _ _ _ _
          (i.0 s f rs h) came.steps c.in-Ok-key.ensures _ c.first.ensures _
          c.goes_on-goes_on.ensures c.if-goes_on.true),
      i.1,
      i.2,
      rw c.in-Ok-push.ensures.added
          (laws.more _ _ _ _ _ _ _ i.3 came.steps c.in-Ok-key.ensures),
      (came.goes.on i.5).0,
      (came.goes.on i.5).1,
      omega (arith, (came.goes.on i.5).2, i.6),
    )

-- An item that begins another run was taken.
pub returns-else-goes_on-clause-steps : goal.returns-else-goes_on-clause-steps
returns-else-goes_on-clause-steps g c =
    let i = c.loop-item.invariant in record {
      over = λ o. absurd (i.2 o);
      stops = tt;
      reads = λ s f rs h. close_held g.I.Iterator.next_gives g.C.Division.how
          g.met.C.Division.steady s f rs _ _ _ _ _ _ _ _ (i.0 s f rs h) c.in-Some.ensures.steps
          c.in-Ok-key.ensures _ c.first.ensures _ c.goes_on-goes_on.ensures _ c.if-goes_on.false
          refl refl refl;
    }

-- The source ended.
pub returns-clause-steps : goal.returns-clause-steps
returns-clause-steps g c =
    let i = c.loop-item.invariant in record {
      over = λ o. absurd (i.2 o);
      stops = tt;
      reads = λ s f rs h. close_end g.I.Iterator.next_gives g.C.Division.how
          g.met.C.Division.steady s f rs _ _ _ _ _ (i.0 s f rs h)
          c.in_default-next.ensures.steps refl i.1;
    }

pub returns-else-goes_on-clause-goes : goal.returns-else-goes_on-clause-goes
returns-else-goes_on-clause-goes g c =
    let i = c.loop-item.invariant in
    let came = c.in-Some.ensures in
    let ahead = came.goes.on i.5 in
    let laws = g.met.C.Division in
    let then = laws.alone _ _ _ _ (laws.more _ _ _ _ _ _ _ i.3 came.steps c.in-Ok-key.ensures) in
    record {
      on = λ f. (λ o. (ahead.0, ahead.1, then), tt, omega (arith, ahead.2, i.6));
      keeps = λ o. (ahead.0, ahead.1, then);
      rests = λ f. tt;
    }
