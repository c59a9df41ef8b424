use Rattle.ne_iter.proofs.iter.flatten.append_each.Goals as goal
use Rattle.std.proofs.Common.{[], ◌∷◌, ◌++◌, refl, sym, ap, ◌∙◌, true, false}
use Rattle.std.proofs.iter.Next.{on, said, served, Serves-on, Yields-more}
use Rattle.std.proofs.lemmas.List.{append-nil}
use Rattle.ne_vec.specs.Divisions.{concat}
use Rattle.ne_iter.specs.Sources.{Reads}
use Rattle.ne_iter.proofs.FlattenRuns.{ReadsEach-more, concat-more}
use Rattle.ne_iter.proofs.PrefixesMade.{more_items}

pub loop-source-init : goal.loop-source-init
loop-source-init g c =
    let ready = c.requires in
    ([], [], refl, tt, sym (append-nil c.args.items.now.items), ready.0, ready.1, ready.2)

pub append_source-appended-requires : goal.append_source-appended-requires
append_source-appended-requires g c it made =
    let step = said g.I.Iterator.next_gives c.in-Some.is c.next.ensures.steps in
    let one = served c.loop-source.invariant.7 c.in-Some.source c.next.new.self step it made in
    (one.0, one.1)

pub returns-then-not-is_whole : goal.returns-then-not-is_whole
returns-then-not-is_whole g c =
    let becomes = g.U.IntoIterator.into_iter_gives in
    let inner = g.U.IntoIter.Iterator.next_gives in
    let steps = g.I.Iterator.next_gives in
    let so_far = c.loop-source.invariant in
    let more = c.append_source-appended.ensures in
    let read = more.1 in
    let source = c.in-Some.source in
    let yss = so_far.1 ++ more.0 ∷ [] in (
      concat yss,
      record {
        sources = so_far.0 ++ source ∷ [];
        lists = yss;
        read = (
          c.next.new.self,
          Yields-more steps c.args.sources so_far.0 c.loop-source.sources source
              c.next.new.self so_far.2 (said steps c.in-Some.is c.next.ensures.steps),
          λ w. absurd cc,
        );
        read_each = ReadsEach-more (Reads becomes inner) false so_far.0 so_far.1 source more.0
            so_far.3 record {
              it = read.it;
              made = read.made;
              given = (read.given.0, read.given.1, λ w. absurd cc);
            };
        is = refl;
      },
      more_items c.args.items.now.items (concat so_far.1) more.0 c.loop-source.items.items
          c.append_source-appended.result.0.items
          (more.2 ∙ ap (λ v. v.items ++ more.0) c.replace-begun.ensures.value) so_far.4
          ∙ ap (λ l. c.args.items.now.items ++ l) (sym (concat-more so_far.1 more.0)),
    )

pub loop-source-preserved : goal.loop-source-preserved
loop-source-preserved g c =
    let becomes = g.U.IntoIterator.into_iter_gives in
    let inner = g.U.IntoIter.Iterator.next_gives in
    let steps = g.I.Iterator.next_gives in
    let so_far = c.loop-source.invariant in
    let more = c.append_source-appended.ensures in
    let read = more.1 in
    let source = c.in-Some.source in
    let step = said steps c.in-Some.is c.next.ensures.steps in
    let after = on source c.in-Some.is c.next.ensures.goes so_far.6 in (
      so_far.0 ++ source ∷ [],
      so_far.1 ++ more.0 ∷ [],
      Yields-more steps c.args.sources so_far.0 c.loop-source.sources source c.next.new.self
          so_far.2 step,
      ReadsEach-more (Reads becomes inner) true so_far.0 so_far.1 source more.0 so_far.3 record {
        it = read.it;
        made = read.made;
        given = (read.given.0, read.given.1, λ _. read.given.2 c.if-not-is_whole.false);
      },
      more_items c.args.items.now.items (concat so_far.1) more.0 c.loop-source.items.items
          c.append_source-appended.result.0.items
          (more.2 ∙ ap (λ v. v.items ++ more.0) c.replace-begun.ensures.value) so_far.4
          ∙ ap (λ l. c.args.items.now.items ++ l) (sym (concat-more so_far.1 more.0)),
      after.0,
      after.1,
      Serves-on so_far.7 source c.next.new.self step tt tt,
    )
