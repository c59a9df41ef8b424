use Rattle.ne_iter.proofs.iter.chain.ChainNonEmptyIterator.append_to.Goals as goal
use Rattle.std.proofs.Common.{◌≡◌, ◌++◌, refl, ap, ◌∙◌, append_assoc, true, false}
use Rattle.std.specs.Iterator.Adapters.{chain_steps}
use Rattle.ne_iter.proofs.Chain.{chain_of, begins_chain, DrainsIf-chained, only_first}
use Rattle.ne_iter.proofs.Appended.{both_finite, list_appended, DrainsIf-failed}

pub append_to-requires : goal.append_to-requires
append_to-requires g c it made =
    let first = g.A.IntoIter.Iterator in
    let second = g.B.IntoIter.Iterator in
    let other = c.into_iter-second.result in
    let ready = c.requires (chain_of it other false) (begins_chain first.next_gives
    second.next_gives it other made c.into_iter-second.ensures.into_iter_gives) in
    (ready.0.0 refl, (both_finite (first.remaining it) (second.remaining other) ready.1).0)

pub append-requires : goal.append-requires
append-requires g c =
    let first = g.A.IntoIter.Iterator in
    let second = g.B.IntoIter.Iterator in
    let other = c.into_iter-second.result in
    let read = c.in_ok-_first.ensures.gives.1 in
    let ready = c.requires (chain_of read.it other false) (begins_chain first.next_gives
    second.next_gives read.it other read.made c.into_iter-second.ensures.into_iter_gives) in
    (ready.0.1 refl, (both_finite (first.remaining read.it) (second.remaining other) ready.1).1)

pub returns-clause-gives : goal.returns-clause-gives
returns-clause-gives g c =
    let first = g.A.IntoIter.Iterator in
    let second = g.B.IntoIter.Iterator in
    let other = c.into_iter-second.result in
    let added = c.in_ok-_first.ensures.gives in
    let read = added.1 in
    let more = c.in_ok-_second.ensures in (
      added.0 ++ more.0,
      record {
        it = chain_of read.it other false;
        made = begins_chain first.next_gives second.next_gives read.it other read.made
            c.into_iter-second.ensures.into_iter_gives;
        given = DrainsIf-chained first.next_gives second.next_gives (true ≡ true) added.0 more.0
            read.it read.given.0 (read.given.2 refl).0 other read.given.1 (read.given.2 refl).1
            more.1;
      },
      more.2 ∙ ap (λ l. l ++ more.0) added.2
          ∙ append_assoc c.args.items.now.items added.0 more.0,
    )

pub returns-in_err-_first-clause-gives : goal.returns-in_err-_first-clause-gives
returns-in_err-_first-clause-gives g c =
    let first = g.A.IntoIter.Iterator in
    let second = g.B.IntoIter.Iterator in
    let other = c.into_iter-second.result in
    let added = c.in_err-_first.ensures.gives in
    let read = added.1 in (
      added.0,
      record {
        it = chain_of read.it other false;
        made = begins_chain first.next_gives second.next_gives read.it other read.made
            c.into_iter-second.ensures.into_iter_gives;
        given = DrainsIf-failed (chain_steps first.next_gives second.next_gives)
            c.from_residual.result c.from_residual.ensures.0 (chain_of read.it other false)
            (chain_of read.given.0 other false) added.0
            (only_first first.next_gives second.next_gives read.it other added.0 read.given.0
            read.given.1);
      },
      added.2,
    )

pub returns-in_err-_second-clause-gives : goal.returns-in_err-_second-clause-gives
returns-in_err-_second-clause-gives g c =
    let first = g.A.IntoIter.Iterator in
    let second = g.B.IntoIter.Iterator in
    let other = c.into_iter-second.result in
    let added = c.in_ok-_first.ensures.gives in
    let read = added.1 in
    let more = c.in_err-_second.ensures in
    let ran = DrainsIf-chained first.next_gives second.next_gives (false ≡ true) added.0 more.0
    read.it read.given.0 (read.given.2 refl).0 other read.given.1 (read.given.2 refl).1 more.1 in (
      added.0 ++ more.0,
      record {
        it = chain_of read.it other false;
        made = begins_chain first.next_gives second.next_gives read.it other read.made
            c.into_iter-second.ensures.into_iter_gives;
        given = DrainsIf-failed (chain_steps first.next_gives second.next_gives)
            c.from_residual-in_err-_second.result c.from_residual-in_err-_second.ensures.0
            (chain_of read.it other false) ran.0 (added.0 ++ more.0) ran.1;
      },
      more.2 ∙ ap (λ l. l ++ more.0) added.2
          ∙ append_assoc c.args.items.now.items added.0 more.0,
    )

pub returns-clause-lists : goal.returns-clause-lists
returns-clause-lists g c = list_appended _ _ c.args.self c.args.items.now.items
    c.append.new.items.items (returns-clause-gives g c)
