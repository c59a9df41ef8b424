use Rattle.ne_laws.proofs.sets.NEBTreeSetNonEmptySet.put.Goals as goal
use Rattle.std.proofs.Common.{◌≡◌, IfOk, OnOk}
use Rattle.std.specs.List.{find}
use Rattle.std.proofs.lemmas.Cmp.{eq_by_cmp_equiv}
use Rattle.ne_laws.specs.Sets.{Puts}
use Rattle.ne_laws.proofs.ByEquality.{by_eq, is_set}
use Rattle.ne_laws.proofs.SetItems.{tree_puts}

pub returns-clause-old : goal.returns-clause-old
returns-clause-old g c =
    by_eq g.T.PartialEq.eq g.T.Ord.cmp g.met.T.Ord.matches_eq
    (λ e. IfOk c.replace.result (λ old. old ≡ find (e c.args.x) c.args.self.now.keys))
    c.replace.ensures.old

pub returns-clause-puts : goal.returns-clause-puts
returns-clause-puts g c =
    by_eq g.T.PartialEq.eq g.T.Ord.cmp g.met.T.Ord.matches_eq
    (λ e. OnOk c.replace.result (Puts e c.args.self.now.keys c.args.x c.replace.new.self.keys))
    (tree_puts g.T.Ord.cmp (eq_by_cmp_equiv g.met.T.Ord.total) c.args.x c.args.self.now.keys
    c.replace.new.self.keys c.replace.result c.replace.ensures.old c.replace.ensures.keys
    c.replace.ensures.len)

pub returns-clause-set : goal.returns-clause-set
returns-clause-set g c =
    is_set g.T.PartialEq.eq g.T.Ord.cmp g.met.T.Ord.matches_eq c.replace.new.self
    c.replace.ensures.valid.1 c.replace.ensures.valid.0
