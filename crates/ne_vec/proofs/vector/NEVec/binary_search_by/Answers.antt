use Rattle.ne_vec.proofs.vector.NEVec.binary_search_by.Goals as goal
use Rattle.std.proofs.Common.{◌+◌, ◌-◌, ◌/◌, ◌≡◌, true, false, inl, refl, sym, ap, ◌∙◌, arith}
use Rattle.std.proofs.lemmas.Fn.{called_at}
use Rattle.std.proofs.lemmas.List.Elements.{at_read}
use Rattle.std.specs.Ordering.{is_gt}
use Rattle.std.specs.declared.cmp.Ordering.TheVariants.{Less, Equal, Greater}
use Rattle.core.proofs.slice.Orders.{answers_next}
use Rattle.ne_vec.specs.SearchLaws.{items_next, items_take}
use Rattle.ne_vec.proofs.Halving.{lower, upper, after_less, at_greater}
use Rattle.ne_vec.proofs.vector.NEVec.binary_search_by.Goals.{then-not-is_gt, else-not-is_gt}

pub loop-size-init : goal.loop-size-init
loop-size-init g c = record {
  some = omega (arith, c.self.invariant);
  inside = omega arith;
  callable = rw (c.as_slice-items.ensures.value, c.self.view_is) c.requires;
  narrowed = λ order h.
      (h, record { low = inl refl; high = λ rises k d a b. absurd (omega (arith, a, b)) });
}

pub f-requires : goal.f-requires
f-requires g c =
    items_take g.F.FnMut _ c.loop-size.f _ _ (omega arith) c.index-items-mid.is
    c.loop-size.invariant.callable

pub loop-size-preserved : goal.loop-size-preserved
loop-size-preserved g c =
    let xs = c.as_slice-items.result.now in
    let base = c.loop-size.base in let size = c.loop-size.size in
    let mid = base + size / 2 in let left = size - size / 2 in let read = c.index-items-mid in
    let callable =
    items_next g.F.FnMut xs c.loop-size.f mid read.result c.f.result c.f.new.self
    (omega arith) read.is (called_at g.F.FnMut c.f.ensures refl)
    c.loop-size.invariant.callable in
    elim c.if-not-is_gt.branch [
      | then-not-is_gt w ↦ record {
        some = omega arith;
        inside = omega (arith, w.base-is);
        callable = callable;
        narrowed = λ order h.
            let i = c.loop-size.invariant.narrowed order h in
            let n = answers_next g.F.FnMut _ _ _ _ _ c.f.ensures i.0 in
            let not = at_read xs (λ y. is_gt (order y) ≡ false) mid read.result (omega arith)
            read.is (ap is_gt (sym n.0) ∙ sym c.is_gt.ensures ∙ w.if-not-is_gt.true) in
            (n.1, rw w.base-is (upper order xs base size mid left (omega arith) i.1 not));
      }
      | else-not-is_gt w ↦ record {
        some = omega arith;
        inside = omega (arith, w.base-is);
        callable = callable;
        narrowed = λ order h.
            let i = c.loop-size.invariant.narrowed order h in
            let n = answers_next g.F.FnMut _ _ _ _ _ c.f.ensures i.0 in
            let is = at_read xs (λ y. is_gt (order y) ≡ true) mid read.result (omega arith)
            read.is (ap is_gt (sym n.0) ∙ sym c.is_gt.ensures ∙ w.if-not-is_gt.false) in
            (n.1, rw w.base-is (lower order xs base size mid left (omega arith) i.1 is));
      }
    ]

pub f-requires-2 : goal.f-requires-2
f-requires-2 g c =
    items_take g.F.FnMut _ c.loop-size.f _ _ (omega arith) c.index-items-base.is
    c.loop-size.invariant.callable

pub returns-in-Equal-clause-position : goal.returns-in-Equal-clause-position
returns-in-Equal-clause-position g c order h =
    let xs = c.as_slice-items.result.now in
    let base = c.loop-size.base in let read = c.index-items-base in
    let i = c.loop-size.invariant.narrowed order h in
    let n = answers_next g.F.FnMut _ _ _ _ _ c.f-2.ensures i.0 in
    rw (← c.self.view_is, ← c.as_slice-items.ensures.value)
    (at_read xs (λ y. order y ≡ Equal) base read.result (omega arith) read.is
    (sym n.0 ∙ c.in-Equal.is))

pub returns-in-Less-clause-position : goal.returns-in-Less-clause-position
returns-in-Less-clause-position g c order h =
    let xs = c.as_slice-items.result.now in
    let base = c.loop-size.base in let read = c.index-items-base in
    let i = c.loop-size.invariant.narrowed order h in
    let n = answers_next g.F.FnMut _ _ _ _ _ c.f-2.ensures i.0 in
    let less = at_read xs (λ y. order y ≡ Less) base read.result (omega arith) read.is
    (sym n.0 ∙ c.in-Less.is) in
    rw (← c.self.view_is, ← c.as_slice-items.ensures.value)
    (after_less order xs base c.loop-size.size (omega arith) (omega arith) i.1 less)

pub returns-clause-position : goal.returns-clause-position
returns-clause-position g c order h =
    let xs = c.as_slice-items.result.now in
    let base = c.loop-size.base in let read = c.index-items-base in
    let i = c.loop-size.invariant.narrowed order h in
    let n = answers_next g.F.FnMut _ _ _ _ _ c.f-2.ensures i.0 in
    let greater = at_read xs (λ y. order y ≡ Greater) base read.result (omega arith) read.is
    (sym n.0 ∙ c.in-Greater.is) in
    rw (← c.self.view_is, ← c.as_slice-items.ensures.value)
    (at_greater order xs base c.loop-size.size i.1 greater)
