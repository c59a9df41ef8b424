use Rattle.ne_iter.proofs.iter.non_empty.NonEmptyIterator.intersperse.Goals as goal
use Rattle.std.proofs.Common.{subst}
use Rattle.std.specs.Prelude.{◌∷◌, ◌≡◌, true, ◌&&◌, is_ok, map, Ok}
use Rattle.std.specs.Iterator.{DrainsIf}
use Rattle.std.specs.List.{list_all}
use Rattle.std.specs.declared.alloc.AllocError.{AllocError}
use Rattle.ne_vec.specs.ListLaws.{triggered}
use Rattle.ne_iter.specs.Cloned.{TriesClone}
use Rattle.ne_iter.specs.Intersperse.{interspersed, JoinsLists}
use Rattle.ne_iter.proofs.Intersperse.{joins_lists, only_its_values, DrainsIf-interspersed}
use Rattle.ne_iter.proofs.Intersperse.{intersperse_list}
use Rattle.ne_iter.proofs.Traced.{begins}
use Rattle.ne_iter.proofs.SourceLists.{read_lists}
use Rattle.ne_iter.specs.LoopLaws.{lists_read}

pub returns-clause-gives : goal.returns-clause-gives
returns-clause-gives g c whole zs h =
    let steps = g.Self.IntoIter.Iterator.next_gives in
    let drawn = c.next-first.ensures.first in
    let p = DrainsIf-interspersed steps (TriesClone g.Self.Item.Clone.is_clone
    g.Self.Item.Clone.is_infallible) c.args.separator whole h.it c.next-first.result.0 zs
    (h.made.0, h.made.3, h.made.2) h.given in
    let run = subst (λ q. DrainsIf steps ((whole && list_all is_ok zs) ≡ true) q p.0) h.made.1 p.2
    in record {
      items = c.next-first.result.0 ∷ p.0;
      later = p.1;
      read = record {
        it = drawn.0;
        made = drawn.1;
        given = (
          run.0,
          (c.next-first.result.1, drawn.2, run.1),
          run.2,
        );
      };
      spaced = p.3;
      over = p.4;
    }

pub returns-clause-lists : goal.returns-clause-lists
returns-clause-lists g c xs lists = (
  triggered _ xs,
  (
    λ none same. read_lists _ _ _ (map Ok (interspersed c.args.separator xs))
        (intersperse_list g.Self.Item.Clone.is_clone g.Self.Item.Clone.is_infallible
        (returns-clause-gives g c) xs none same (lists_read _ _ _ xs lists)),
    joins_lists c.args.separator xs,
    only_its_values AllocError c.args.separator xs,
  ),
)

pub returns-clause-runs : goal.returns-clause-runs
returns-clause-runs g c =
    let f = c.next-first.ensures.first in (
      f.0,
      f.1,
      begins g.Self.IntoIter.Iterator.next_gives (JoinsLists c.args.separator)
          (joins_lists c.args.separator) f.0 c.next-first.result.0 c.next-first.result.1 f.2,
    )
