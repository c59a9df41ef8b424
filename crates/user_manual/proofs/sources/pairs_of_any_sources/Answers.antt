use Rattle.user_manual.proofs.sources.pairs_of_any_sources.Goals as goal
use Rattle.std.proofs.Common.{◌∙◌, map, subst, sym}
use Rattle.std.proofs.lemmas.Result.{IfOk-weaker}
use Rattle.std.specs.Prelude.{Ok}
use Rattle.ne_products.specs.Pairs.{cartesian_product}
use Rattle.ne_products.specs.Restarts.{ClonesAgain, NeverRefuses}

pub returns : goal.returns
returns g c = IfOk-weaker c.collect.result _ _ (λ v h xs ys first second.
    let product = c.cartesian_product-product in
    let same = sym product.ensures.holds.1.0 in
    let again = subst (λ u. ClonesAgain g.U.IntoIterator.into_iter_gives
    g.U.IntoIter.Iterator.remaining g.U.IntoIter.Clone.is_clone u) same c.requires.again in
    let certain = subst (λ u. NeverRefuses g.U.IntoIterator.into_iter_gives
    g.U.IntoIter.Clone.is_infallible u) same c.requires.certain in
    let pairs = c.list_of_cartesian_product.ensures product.result xs ys product.ensures.gives
    product.ensures.holds.1 again
    certain (λ x among. (tt, λ y copy. copy)) first second in
    h.2 ∙ c.lists_are_read_whole.ensures (map Ok (cartesian_product xs ys)) h.0 pairs h.1)
    c.collect.ensures.gives
