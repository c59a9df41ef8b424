use Rattle.ne_products.proofs.products.ProductIterIterator.next.Goals as goal
use Rattle.std.proofs.Common.{None, subst, sym, ◌∙◌}
use Rattle.ne_products.proofs.ProductSteps.{begins_row}
use Rattle.ne_products.proofs.ProductProgress.{row_goes}

-- A further row begins with a clone of the right side, as it was at the start.
pub returns-clause-steps : goal.returns-clause-steps
returns-clause-steps g c =
    let row = c.in_ok-row.ensures in
    let from = c.in-Ok.ensures in
    begins_row g.I.Iterator.next_gives g.J.Iterator.next_gives g.I.Item.Clone.is_clone
    g.I.Item.Clone.is_infallible g.J.Clone.is_clone g.J.Clone.is_infallible c.args.self.now
    c.if-self.false _ c.pair-2.new.self _ _ _ c.in-Ok.restarted _ row.restart row.exhausted (
      c.in_ok-row.row,
      c.next.new.self,
      from.0,
      row.row.0,
      subst (λ q. g.J.Iterator.next_gives q None c.next.new.self) row.right
          c.in_default.ensures.steps,
      sym row.restart ∙ from.1,
      from.2,
    ) c.in_ok-next_row.ensures.steps c.in_ok-right.ensures.steps c.pair-2.ensures

pub returns-clause-goes : goal.returns-clause-goes
returns-clause-goes g c =
    let row = c.in_ok-row.ensures in
    let from = c.in-Ok.ensures in
    row_goes g.I.Iterator.remaining g.J.Iterator.remaining g.I.Iterator.can_next
    g.J.Iterator.can_next g.I.Item.Clone.is_clone g.I.Item.Clone.is_infallible g.J.Clone.is_clone
    c.args.self.now c.if-self.false c.requires _ c.pair-2.new.self c.in_ok-row.row _ _ _
    c.in-Ok.restarted from.0 _ row.restart row.exhausted (sym row.restart ∙ from.1) from.2 row.row.1
    c.in_ok-next_row.ensures.goes c.in_ok-right.ensures.goes c.pair-2.ensures
