use Rattle.ne_products.proofs.products.NonEmptyItertools.cartesian_product.Goals as goal
use Rattle.std.proofs.Common.{inl, inr, refl}
use Rattle.ne_products.specs.Product.{left_of, right_of, restart_of}
use Rattle.ne_products.proofs.ProductLists.{pairs_lists}
use Rattle.ne_products.proofs.ProductProgress.{fresh_finite}
use Rattle.ne_products.proofs.ProductRuns.{DrainsIf-product}
use Rattle.ne_products.proofs.Restarted.{each_some, restarts}
use Rattle.ne_products.specs.Restarts.{RestartsFrom}

pub returns-clause-ends : goal.returns-clause-ends
returns-clause-ends g c left right again it made =
    let l = left (left_of it) made.0 in
    let r = right (right_of it) made.1 in
    let rows = each_some (restart_of it) _ _ _ _ made.2 (λ _. tt)
    (λ r. restarts g.J.IntoNEIter.IntoIterator.into_iter_gives
    g.J.IntoNEIter.IntoIter.Iterator.can_next g.J.IntoNEIter.IntoIter.Iterator.remaining
    g.J.IntoNEIter.IntoIter.Clone.is_clone c.into_nonempty_iter.result right again
    (right_of it) r made.1) in (
      (λ _. (l.0, r.0, r.1, rows)),
      fresh_finite g.Self.IntoIter.Iterator.remaining
          g.J.IntoNEIter.IntoIter.Iterator.remaining it made.4 l.1,
    )

pub returns-clause-gives : goal.returns-clause-gives
returns-clause-gives g c again whole zs h = (
  right_of h.it,
  h.made.1,
  let copies = g.J.IntoNEIter.IntoIter.Clone.is_clone in
      let has = g.met.J.IntoNEIter.NonEmptyIterator.not_empty c.into_nonempty_iter.result in
      let rows = each_some (restart_of h.it) _ _ _ _ h.made.2
      (λ n. (right_of h.it, h.made.1, n))
      (λ r copied.
      let one = (again (right_of h.it) r h.made.1 copied).0 in (
        (λ n. (r, one, n)),
        λ d more. (inr (r, copied, more), has d (again r d one more).0),
      )) in
      let p = DrainsIf-product _ _ g.Self.IntoIter.Iterator.next_gives
      g.J.IntoNEIter.IntoIter.Iterator.next_gives g.Self.Item.Clone.is_clone
      g.Self.Item.Clone.is_infallible copies g.J.IntoNEIter.IntoIter.Clone.is_infallible
      (RestartsFrom copies (right_of h.it)) whole h.it zs h.made.4 h.made.3 rows (inl refl)
      (has (right_of h.it) h.made.1) h.given in
      record {
        items = p.0;
        rows = p.1;
        same_length = p.2;
        read = record { it = left_of h.it; made = h.made.0; given = p.3 };
        read_rows = p.4;
        paired = p.5;
        all = p.6;
      },
)

pub returns-clause-lists : goal.returns-clause-lists
returns-clause-lists g c = pairs_lists g.Self.IntoIterator.into_iter_gives
    g.Self.IntoIter.Iterator.next_gives g.J.IntoIterator.into_iter_gives
    g.J.IntoIter.Iterator.next_gives _ _ g.J.IntoNEIter.IntoIter.Iterator.remaining
    g.J.IntoNEIter.IntoIter.Clone.is_clone g.J.IntoNEIter.IntoIter.Iterator.next_gives
    g.Self.Item.Clone.is_clone g.Self.Item.Clone.is_infallible
    g.J.IntoNonEmptyIterator.into_nonempty_iter_gives g.J.IntoNEIter.IntoIterator.into_iter_gives
    g.J.IntoNEIter.IntoIter.Clone.is_infallible c.args.self c.args.other
    c.into_nonempty_iter.result _ g.met.J.IntoNonEmptyIterator.same_lists
    c.into_nonempty_iter.ensures.into_nonempty_iter_gives (returns-clause-gives g c)
