use Rattle.std.proofs.Common.{◌≡◌, length, Some, subst, arith, rules}
use Rattle.std.proofs.lemmas.Grind.{common_steps}
use Rattle.std.proofs.lemmas.Result.{on_ok_weaker}
use Rattle.serde.specs.Event.{Logs, seq_begins}
use Rattle.serde.proofs.Events.{WritesUpTo-start, WritesUpTo-more, WritesUpTo-all}
use Rattle.ne_index.proofs.index_set.serialized.NEIndexSetSerialize.serialize.Goals as goal

pub loop-item-init : goal.loop-item-init
loop-item-init g c =
    let rest : c.into_iter-item-iterator.result ≡ c.args.self.now.keys = search rules in
    WritesUpTo-start g.T.Described.writes _ _ _ rest

pub loop-item-preserved : goal.loop-item-preserved
loop-item-preserved g c = WritesUpTo-more g.T.Described.writes _ _ _ c.in-Some.item.now _ _ _
    c.loop-item.invariant c.in-Some.ensures.steps c.in_ok-serialize.ensures

pub returns : goal.returns
returns g c =
    let len : c.len.result ≡ length c.args.self.now.keys = search rules in
    let begun = subst (λ n. Logs (g.S.Serializer.written c.args.out.now)
    (g.S.Serializer.written c.begin_seq.new.self) (seq_begins (Some n))) len
    c.in_ok-begin_seq.ensures in
    let each = WritesUpTo-all g.T.Described.writes _ _ _ _ c.loop-item.invariant
    (grind (arith, common_steps, c.in-None.ensures.steps.0)) in
    on_ok_weaker c.end_seq.result (λ ended. (_, _, begun, each, ended)) c.end_seq.ensures
