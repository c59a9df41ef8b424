use Rattle.ne_tree.proofs.btree_map.traits.NEBTreeMapStringKeyedMapRefStr.with_entry.Goals as goal
use Rattle.std.proofs.Common.{None, Some, ap, cond, ◌∙◌}
use Rattle.std.proofs.lemmas.Map.Text.{is_eq-slice_cmp}
use Rattle.std.specs.Cmp.Lexicographic.{nat_list_eq_equiv, slice_cmp}
use Rattle.std.specs.Ordering.{is_eq, nat_cmp}
use Rattle.std.specs.Map.{lookup}
use Rattle.std.specs.Str.{bytes_eq}
use Rattle.std.specs.String.{string_bytes}

pub returns : goal.returns
returns g c = λ q.
    let k = c.in_ok-from_str.field-0 in
    ap (lookup (λ j. is_eq (slice_cmp nat_cmp q (string_bytes j)))) c.in_ok-map.ensures.entries
    ∙ ap (λ b. cond b (Some c.args.v) None)
    (is_eq-slice_cmp q (string_bytes k) ∙ ap (bytes_eq q) c.in_ok-from_str.ensures.ok
    ∙ nat_list_eq_equiv.symm q c.args.k.now)
