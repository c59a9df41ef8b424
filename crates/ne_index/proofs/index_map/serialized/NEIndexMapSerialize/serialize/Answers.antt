use Rattle.std.proofs.Common.{◌≡◌, length, Some, subst, arith, rules}
use Rattle.std.proofs.lemmas.Grind.{common_steps}
use Rattle.std.proofs.lemmas.Result.{on_ok_weaker}
use Rattle.serde.specs.Event.{Logs, map_begins, WritesEntry}
use Rattle.serde.proofs.Events.{WritesUpTo-start, WritesUpTo-more, WritesUpTo-all}
use Rattle.ne_index.proofs.index_map.serialized.NEIndexMapSerialize.serialize.Goals as goal

pub loop-key-init : goal.loop-key-init
loop-key-init g c =
    let rest : c.into_iter-key-iterator.result ≡ c.args.self.now.entries = search rules in
    WritesUpTo-start (WritesEntry g.K.Described.writes g.V.Described.writes) _ _ _ rest

pub loop-key-preserved : goal.loop-key-preserved
loop-key-preserved g c =
    WritesUpTo-more (WritesEntry g.K.Described.writes g.V.Described.writes) _ _ _
    (c.in-Some.key.now, c.in-Some.value.now) _ _ _ c.loop-key.invariant c.in-Some.ensures.steps (
      _,
      _,
      _,
      c.in_ok-begin_key.ensures,
      c.in_ok-serialize.ensures,
      c.in_ok-end_key.ensures,
      c.in_ok-serialize-2.ensures,
    )

pub returns : goal.returns
returns g c =
    let len : c.len.result ≡ length c.args.self.now.entries = search rules in
    let begun = subst (λ n. Logs (g.S.Serializer.written c.args.out.now)
    (g.S.Serializer.written c.begin_map.new.self) (map_begins (Some n))) len
    c.in_ok-begin_map.ensures in
    let each = WritesUpTo-all (WritesEntry g.K.Described.writes g.V.Described.writes) _ _ _ _
    c.loop-key.invariant (grind (arith, common_steps, c.in-None.ensures.steps.0)) in
    on_ok_weaker c.end_map.result (λ ended. (_, _, begun, each, ended)) c.end_map.ensures
