use Rattle.user_generic.proofs.own_sources.Stack.nonempty_iter.Goals as goal
use Rattle.std.proofs.Common.{subst}
use Rattle.std.specs.Prelude.{map}
use Rattle.std.specs.Iterator.{YieldsFirstRef}
use Rattle.ne_vec.specs.Lists.{IsPrefix, Lists}
use Rattle.ne_vec.specs.ListLaws.{triggered, viewed_prefix}

pub returns : goal.returns
unfolding Lists
returns g c = (
  triggered _ _,
  λ it made whole ys given. subst (λ l. IsPrefix whole l (map (λ y. y.now) ys)) made.1
      (viewed_prefix (YieldsFirstRef (λ left. left)) (λ y. y.now) (λ s. s) (λ s t x st. st)
      (λ s t st. st.0) it ys given),
)
