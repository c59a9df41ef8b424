use Rattle.ne_heap.proofs.binary_heap.NEBinaryHeap.replace_greatest.Goals as goal
use Rattle.std.proofs.Common.{rules}
use Rattle.std.proofs.lemmas.Option.{MatchOption-at_some}
use Rattle.ne_heap.proofs.Exchanged.{exchanged}
use Rattle.ne_heap.proofs.Items.{is_greatest, replaces_item}

pub returns-clause-replaced : goal.returns-clause-replaced
returns-clause-replaced g c =
    let greatest = c.unwrap-greatest.result in
    let taken = MatchOption-at_some _ _ greatest c.unwrap-greatest.ensures
    c.peek_mut.ensures.permutation in
    let put = c.drop-greatest.ensures.permutation (search rules) in
    let all = exchanged _ _ _ _ _ taken put in
    replaces_item _ _ _ _ (search rules)

pub returns-clause-greatest : goal.returns-clause-greatest
returns-clause-greatest g c =
    is_greatest g.T.PartialEq.eq g.T.Ord.cmp g.met.T.Eq.laws c.args.self.now c.replace.result
    (search rules) (search rules)
