use Rattle.ne_iter.proofs.iter.non_empty.NonEmptyIterator.min_by_key.Goals as goal
use Rattle.std.proofs.Common.{◌∷◌, rules}
use Rattle.std.proofs.lemmas.List.MinMax.{ranks_by}
use Rattle.ne_iter.specs.Consumers.{less_by}
use Rattle.ne_iter.proofs.Best.{IsFirstLeast-kept, less_by-from_partial_lt}
use Rattle.ne_iter.proofs.KeyedBest.{best_key_run_of, has_best_key}

pub returns-clause-gives : goal.returns-clause-gives
returns-clause-gives g c =
    let kept = c.best_by_key.ensures in
    let key = g.met.B.Ord in record {
      keyed = kept.0 ∷ kept.1;
      key = kept.2;
      f_then = kept.3;
      read = kept.4;
      called = kept.5;
      is_best = IsFirstLeast-kept (λ p. p.1) _ _ (λ p q. less_by g.B.Ord.cmp p.1 q.1)
          (ranks_by key.total (λ p. p.1)) kept.0 kept.1 (c.best_by_key.result, kept.2)
          (λ p q t a b says.
          less_by-from_partial_lt key.matches_partial_cmp q.1 p.1 t (search rules))
          kept.6;
    }

pub returns-clause-lists : goal.returns-clause-lists
returns-clause-lists g c =
    let r = returns-clause-gives g c in
    has_best_key g.F.FnMut c.args.key (less_by g.B.Ord.cmp) r.keyed c.best_by_key.result r.key
    r.f_then r.called r.is_best g.Self.IntoIterator.into_iter_gives
    g.Self.IntoIter.Iterator.next_gives c.args.self g.Self.NonEmptyIterator.item_view r.read

pub returns-clause-runs : goal.returns-clause-runs
returns-clause-runs g c =
    let r = returns-clause-gives g c in
    best_key_run_of g.F.FnMut c.args.key (less_by g.B.Ord.cmp) r.keyed
    c.best_by_key.result r.key r.f_then r.called r.is_best r.read
