use Rattle.ne_deque.proofs.vec_deque.NEVecDeque.extend.Goals as goal
use Rattle.std.specs.Prelude.{◌≡◌, ◌+◌, ◌++◌, length}
use Rattle.std.specs.VecDeque.{deque_len}
use Rattle.ne_iter.specs.Keyed.ExtendLaws.{extends_by_list}

pub returns-clause-lists : goal.returns-clause-lists
returns-clause-lists g c =
    let s = c.self.inside.inner in
    let t = c.extend.new.self in
    rw (← c.self.view_is) (extends_by_list _ _ c.args.iter
    (λ q xs w. (w.items ≡ q.items ++ xs) × (deque_len w ≡ deque_len q + length xs)) s t
    c.extend.result s.items (λ all. t.items ≡ all) (λ ys made. made.0) c.extend.ensures.ran)
