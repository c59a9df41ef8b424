use Rattle.ne_deque.proofs.vec_deque.NEVecDeque.partition_point.Goals as goal
use Rattle.std.proofs.Common.{rules}
use Rattle.std.specs.Prelude.{⊤}
use Rattle.ne_vec.specs.SearchLaws.{callable_under, computes, computes_under, partition_of}
use Rattle.ne_vec.specs.SearchLaws.{side}
use Rattle.ne_deque.proofs.vec_deque.NEVecDeque.partition_point.Goals.{in-Ok, in-Ok-2}

pub binary_search_by-found-requires : goal.binary_search_by-found-requires
binary_search_by-found-requires g c =
    callable_under g.P.FnMut _ (λ p. p.0.now) (λ p. ⊤) side
    (λ p q x r one. search (rules, one)) _ _ (λ p x takes. search (rules, takes)) c.requires

pub returns-clause-partitioned : goal.returns-clause-partitioned
returns-clause-partitioned g c meets is_test parted =
    let position = c.binary_search_by-found.ensures.position _
    (computes_under g.P.FnMut _ (λ p. p.0.now) (λ p. ⊤) side
    (λ p q x r one. search (rules, one)) meets _ tt is_test) in
    elim c.match-found.branch [
      | in-Ok w ↦ rw w.result-is (partition_of meets _ _ _ parted position w.in-Ok.is)
      | in-Ok-2 w ↦ rw w.result-is (partition_of meets _ _ _ parted position w.in-Ok.is)
    ]

pub returns-clause-acts : goal.returns-clause-acts
returns-clause-acts g c meets acts =
    returns-clause-partitioned g c meets (computes g.P.FnMut c.args.pred meets acts)
