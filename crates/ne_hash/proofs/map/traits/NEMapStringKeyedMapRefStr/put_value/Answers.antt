use Rattle.ne_hash.proofs.map.traits.NEMapStringKeyedMapRefStr.put_value.Goals as goal
use Rattle.std.proofs.Common.{◌≡◌, Some, subst}
use Rattle.std.proofs.lemmas.Map.Text.{hash_map_updates_text}
use Rattle.std.specs.HashMap.{get_by_text}
use Rattle.std.specs.Map.{update}
use Rattle.std.specs.Str.{bytes_eq}
use Rattle.std.specs.String.{string_bytes}

pub returns-clause-value : goal.returns-clause-value
returns-clause-value g c = λ q.
    let m = c.args.self.now in
    let n = c.insert.new.self in
    let k = c.in_ok-from_str.field-0 in
    subst (λ bs. get_by_text n q ≡ update bytes_eq (get_by_text m) bs (Some c.args.v) q)
    c.in_ok-from_str.ensures.ok
    (hash_map_updates_text (string_bytes k) m n (Some c.args.v) c.in_ok-_old.ensures.updates q)
