use Rattle.ne_products.proofs.laws.cartesian_product_ends.Goals as goal
use Rattle.ne_products.specs.Product.{left_of, product_second, restart_of, right_of}
use Rattle.ne_products.proofs.ProductProgress.{fresh_finite}
use Rattle.ne_products.proofs.Restarted.{each_some, restarts}

pub returns : goal.returns
returns g c product left right again it made =
    let l = left (left_of it) made.0 in
    let r = right (right_of it) made.1 in
    let rows = each_some (restart_of it) _ _ _ _ made.2 (λ _. tt)
    (λ d. restarts g.U.IntoIterator.into_iter_gives g.U.IntoIter.Iterator.can_next
    g.U.IntoIter.Iterator.remaining g.U.IntoIter.Clone.is_clone (product_second product) right
    again (right_of it) d made.1) in (
      (λ _. (l.0, r.0, r.1, rows)),
      fresh_finite g.S.IntoIter.Iterator.remaining g.U.IntoIter.Iterator.remaining it made.4 l.1,
    )
