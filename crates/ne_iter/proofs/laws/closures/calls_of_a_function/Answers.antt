use Rattle.ne_iter.proofs.laws.closures.calls_of_a_function.Goals as goal
use Rattle.ne_iter.proofs.FunctionCalls.{function_values}

pub returns : goal.returns
returns g c h xs ys left acts calls = function_values g.F.FnMut c.args.f.now h xs ys left acts calls
