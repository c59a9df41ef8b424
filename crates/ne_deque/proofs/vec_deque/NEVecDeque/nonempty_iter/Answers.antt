use Rattle.ne_deque.proofs.vec_deque.NEVecDeque.nonempty_iter.Goals as goal
use Rattle.ne_deque.specs.IteratorLaws.{lists_queue}

pub returns-clause-lists : goal.returns-clause-lists
returns-clause-lists g c = lists_queue _ _ c.self.view_is
