use Rattle.ne_products.proofs.laws.list_of_cartesian_product.Goals as goal
use Rattle.ne_products.specs.Product.{product_second}
use Rattle.ne_products.proofs.ProductLists.{each_yields, product_list}

pub returns : goal.returns
returns g c product xs ys gives made again sure exact first second =
    product_list g.U.IntoNEIter.IntoIter.Iterator.remaining g.S.Item.Clone.is_clone
    g.S.Item.Clone.is_infallible
    g.U.IntoNEIter.IntoIterator.into_iter_gives g.U.IntoNEIter.IntoIter.Clone.is_infallible
    (product_second product) gives again sure xs ys exact first
    (each_yields _ g.met.U.IntoNonEmptyIterator.same_lists made second)
