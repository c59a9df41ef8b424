use Rattle.ne_iter.proofs.iter.non_empty.NonEmptyIterator.product.Goals as goal
use Rattle.std.proofs.Common.{subst, sym}
use Rattle.ne_vec.specs.ListLaws.{became, triggered}
use Rattle.ne_iter.proofs.SourceLists.{of_drained}

pub returns-clause-lists : goal.returns-clause-lists
returns-clause-lists g c xs lists =
    let ran = c.product.ensures.ran in (
      triggered _ xs,
      λ complete. of_drained _ _ _ xs lists (λ l. g.P.Product.product_gives l c.product.result)
          c.into_iter.result
          ran.0 c.into_iter.ensures.into_iter_gives (ran.1 complete) ran.2,
    )

pub product-requires-clause-fits : goal.product-requires-clause-fits
product-requires-clause-fits g c p seen from =
    let made = subst (g.Self.IntoIterator.into_iter_gives c.args.self) (sym from)
    c.into_iter.ensures.into_iter_gives in
    c.requires.fits p seen (became _ _ _ made) made
