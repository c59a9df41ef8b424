use Rattle.ne_laws.proofs.sets.NEBTreeSetNonEmptySet.discard.Goals as goal
use Rattle.std.specs.BTreeMap.{is_at}
use Rattle.std.specs.Ordering.{eq_by_cmp}
use Rattle.std.proofs.lemmas.Cmp.{eq_by_cmp_equiv}
use Rattle.std.proofs.lemmas.Map.Keys.{IsDistinct-from_sorted}
use Rattle.std.proofs.lemmas.Map.Views.{All-remove_key}
use Rattle.std.proofs.Common.{subst, sym}
use Rattle.std.specs.List.{All}
use Rattle.ne_laws.specs.Sets.{Discards}
use Rattle.ne_laws.proofs.ByEquality.{by_eq, is_set}
use Rattle.ne_laws.proofs.SetItems.{discards, removed}

pub returns-clause-discards : goal.returns-clause-discards
returns-clause-discards g c =
    by_eq g.T.PartialEq.eq g.T.Ord.cmp g.met.T.Ord.matches_eq
    (λ e. Discards e c.args.self.now.keys c.args.x.now c.remove.result c.remove.new.self.keys)
    (discards (eq_by_cmp g.T.Ord.cmp) c.args.x.now c.args.self.now.keys c.remove.new.self.keys
    c.remove.result _ _ c.remove.ensures.keys c.remove.ensures.updates
    (λ left changed. removed (eq_by_cmp_equiv g.met.T.Ord.total) c.args.x.now
    c.args.self.now.keys c.remove.new.self.keys
    (IsDistinct-from_sorted g.T.Ord.cmp c.args.self.now.keys c.len-len.ensures.valid.1)
    (λ P all. subst (All P) (sym left)
    (All-remove_key (is_at (g.T.Ord.cmp c.args.x.now)) P c.args.self.now.keys all))
    changed.0)
    c.remove.ensures.len)

pub returns-clause-set : goal.returns-clause-set
returns-clause-set g c =
    is_set g.T.PartialEq.eq g.T.Ord.cmp g.met.T.Ord.matches_eq c.remove.new.self
    c.remove.ensures.valid.1 c.remove.ensures.valid.0
