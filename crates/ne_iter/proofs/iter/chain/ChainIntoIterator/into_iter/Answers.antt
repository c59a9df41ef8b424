use Rattle.ne_iter.proofs.iter.chain.ChainIntoIterator.into_iter.Goals as goal
use Rattle.std.proofs.Common.{sym, subst}
use Rattle.std.specs.Iterator.Adapters.{chain_second}
use Rattle.ne_iter.specs.Chain.{ChainsRuns}
use Rattle.ne_iter.proofs.Chain.{chains_runs}

pub returns : goal.returns
returns g c =
    let e = sym c.chain.ensures.first in
    let steps = g.A.IntoIter.Iterator.next_gives in
    let others = g.B.IntoIter.Iterator.next_gives in
    let it = c.chain.result in
    record {
      into_iter_gives = (
        subst (g.A.IntoIterator.into_iter_gives c.args.self.a) e
            c.into_iter.ensures.into_iter_gives,
        c.chain.ensures.second,
        c.chain.ensures.first_done,
        c.chain.ensures.second_done,
        subst (λ u. ChainsRuns steps others u (chain_second it) it) e
            (chains_runs steps others c.into_iter.result (chain_second it) it c.chain.ensures.runs),
      );
    }
