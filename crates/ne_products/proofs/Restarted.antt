-- What a product needs of its right side, from what is known of the source and its clones.
use Rattle.std.specs.Prelude.{Option, Some, None, MatchOption}
use Rattle.std.specs.Iterator.{Count, IsFiniteIterable}
use Rattle.ne_products.specs.Product.{CanRestart}
use Rattle.ne_products.specs.Restarts.{ClonesAgain}

-- What can be iterated over once for each row.
module _ {U J : Type 0} (becomes : U → J → Type 0) (can : J → Type 0) (left : J → Count)
    (copies : J → J → Type 0) (u : U) (ends : IsFiniteIterable becomes can left u)
    (again : ClonesAgain becomes left copies u) where
  pub restarts : (j c : J) → becomes u j → copies j c → CanRestart can left copies c
  restarts j c made copied =
      let one = again j c made copied in (
        (ends c one.0).1,
        λ d more.
            let two = again c d one.0 more in
            let e = ends d two.0 in
            (e.0, e.1, two.1),
      )

pub each_some : {J : Type 0} (o : Option J) (N M : Type 0) (C D : J → Type 0) → MatchOption o N C
    → (N → M) → ((c : J) → C c → D c) → MatchOption o M D
each_some None N M C D h f g = f h
each_some (Some c) N M C D h f g = g c h
