use Rattle.ne_vec.proofs.vector.NEVec.retain.Goals as goal
use Rattle.std.proofs.Common.{rules}
use Rattle.std.proofs.lemmas.Fn.{filter_same}
use Rattle.ne_vec.proofs.Sifts.{callable_through, filters}

pub retain_mut-requires : goal.retain_mut-requires
retain_mut-requires g c =
    callable_through g.F.FnMut _ (λ p. p.0.now) (λ p q x r y one. search (rules, one)) _ _
    (λ p x takes. search (rules, takes)) c.requires

pub returns-clause-called : goal.returns-clause-called
returns-clause-called g c =
    filters g.F.FnMut _ (λ p. p.0.now) (λ p q x r y one. search (rules, one)) _ _ _
    c.retain_mut.ensures.called

pub returns-clause-kept : goal.returns-clause-kept
returns-clause-kept g c keeps pure =
    filter_same _ keeps _ (λ x r f' k. ((pure x r f' k).1, (pure x r f' k).0)) _ _
    (returns-clause-called g c)
