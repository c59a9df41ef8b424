use Rattle.ne_deque.proofs.vec_deque.NEVecDeque.binary_search_by_key.Goals as goal
use Rattle.std.proofs.Common.{◌≡◌, refl, rules}
use Rattle.ne_deque.proofs.AmongKeys.{among_keys}
use Rattle.ne_vec.specs.SearchLaws.{callable_under, computes, computes_under}

pub binary_search_by-requires : goal.binary_search_by-requires
binary_search_by-requires g c =
    callable_under g.F.FnMut _ (λ p. p.0.now) (λ p. p.1.now ≡ c.args.b.now)
    (λ k. g.B.Ord.cmp k c.args.b.now) (λ p q x r one. search (rules, one)) _ _
    (λ p x takes. search (rules, takes)) c.requires

pub returns-clause-position : goal.returns-clause-position
returns-clause-position g c key is_key =
    c.binary_search_by.ensures.position _
    (computes_under g.F.FnMut _ (λ p. p.0.now) (λ p. p.1.now ≡ c.args.b.now)
    (λ k. g.B.Ord.cmp k c.args.b.now) (λ p q x r one. search (rules, one)) key _ refl is_key)

pub returns-clause-keys : goal.returns-clause-keys
returns-clause-keys g c key acts = (
  refl,
  among_keys key (λ k. g.B.Ord.cmp k c.args.b.now) c.args.self.now _
      c.binary_search_by.ensures.bound
      (returns-clause-position g c key (computes g.F.FnMut c.args.f key acts)),
)
