use Rattle.ne_vec.proofs.vector.NEVec.map_in_place.Goals as goal
use Rattle.std.proofs.Common.{◌≡◌, drop, length, ◌∙◌, arith, take_at}
use Rattle.ne_vec.proofs.Mapped.{are_mapped}

pub returns-clause-mapped : goal.returns-clause-mapped
returns-clause-mapped g c h acts =
    let called = rw (c.as_mut_slice.ensures.value, c.self.view_is) at c.map_each.ensures.called in
    let long : length c.map_each.new.items ≡ c.self.inside.inner.len = omega arith in
    take_at c.map_each.new.items (drop (length c.map_each.new.items) c.self.inside.inner.items)
    c.self.inside.inner.len long
    ∙ are_mapped g.F.FnMut c.args.f c.args.self c.map_each.new.items called.0 h acts called.1
