use Rattle.ne_iter.proofs.iter.best.best_by_key.Goals as goal
use Rattle.std.proofs.Common.{true, ◌∷◌, map, rules, subst}
use Rattle.std.specs.Iterator.Adapters.{map_source, map_callee}
use Rattle.ne_iter.specs.Sources.{Reads}
use Rattle.ne_iter.proofs.Keyed.{CallableOnAll-pairs, KeepsBetter-keyed, keyed, CallsEachAt-pairs}

pub best-key-requires-clause-ends : goal.best-key-requires-clause-ends
best-key-requires-clause-ends g c it made =
    let from = map_source it in
    let becomes = subst (λ s. g.S.IntoIterator.into_iter_gives s from)
    c.map-pairs.ensures.holds.0 made.0 in
    let ends = c.requires.ends from becomes in (
      (
        ends.0,
        CallableOnAll-pairs g.F.FnMut _ (λ f. f.0.now)
            (λ f x p h one. search (rules, one)) (λ f x takes. search (rules, takes))
            g.S.IntoIter.Iterator.next_gives from (map_callee it)
            (search (rules, c.requires.keyed from becomes)),
      ),
      ends.1,
    )

pub returns : goal.returns
returns g c =
    let becomes = g.S.IntoIterator.into_iter_gives in
    let steps = g.S.IntoIter.Iterator.next_gives in
    let kept = c.best-key.ensures in
    let pairs = kept.0 ∷ kept.1 in
    let behind = c.map-pairs.ensures.gives true pairs kept.2 in
    let calls_made = CallsEachAt-pairs g.F.FnMut _ (λ f. f.0.now)
    (λ f x p h one. search (rules, one)) _ behind.items pairs behind.f_then behind.called in (
      keyed kept.0,
      map keyed kept.1,
      c.best-key.result.0,
      behind.f_then.0.now,
      subst (Reads becomes steps true c.args.source) calls_made.0 behind.read,
      calls_made.1,
      KeepsBetter-keyed _ _ g.G.Fn c.args.better (λ v w t says. search (rules, says))
          kept.0 kept.1 c.best-key.result kept.3,
    )
