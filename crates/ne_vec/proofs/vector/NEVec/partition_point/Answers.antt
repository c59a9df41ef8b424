use Rattle.ne_vec.proofs.vector.NEVec.partition_point.Goals as goal
use Rattle.std.proofs.Common.{cond, rules}
use Rattle.std.specs.Prelude.{⊤}
use Rattle.std.specs.declared.cmp.Ordering.TheVariants.{Less, Greater}
use Rattle.ne_vec.specs.SearchLaws.{callable_under, computes_under, partition_of}
use Rattle.ne_vec.proofs.vector.NEVec.partition_point.Goals.{in-Ok, in-Ok-2}

pub binary_search_by-found-requires : goal.binary_search_by-found-requires
binary_search_by-found-requires g c =
    callable_under g.P.FnMut _ (λ p. p.0.now) (λ p. ⊤) (λ met. cond met Less Greater)
    (λ p q x r one. search (rules, one)) _ _ (λ p x takes. search (rules, takes)) c.requires

pub returns-clause-partitioned : goal.returns-clause-partitioned
returns-clause-partitioned g c meets computes parted =
    let position = c.binary_search_by-found.ensures.position _
    (computes_under g.P.FnMut _ (λ p. p.0.now) (λ p. ⊤) (λ met. cond met Less Greater)
    (λ p q x r one. search (rules, one)) meets _ tt computes) in
    elim c.match-found.branch [
      | in-Ok w ↦ rw w.result-is (partition_of meets _ _ _ parted position w.in-Ok.is)
      | in-Ok-2 w ↦ rw w.result-is (partition_of meets _ _ _ parted position w.in-Ok.is)
    ]
