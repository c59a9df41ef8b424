use Rattle.user_programs.proofs.intervals.join.Goals as goal
use Rattle.user_programs.proofs.Joined.{points_joined}
use Rattle.user_programs.specs.Points.{end_of}

pub returns-clause-points : goal.returns-clause-points
returns-clause-points c =
    let start = c.joined_start-low in
    let end = c.joined_end-high in
    let put = c.in_ok-replace.ensures in
    points_joined (end_of c.args.map.now.entries) (end_of c.replace.new.map.entries) start.result
    end.result put.at put.within put.below put.above c.args.start c.args.end start.ensures.before
    end.ensures.after start.ensures.covered end.ensures.covered end.ensures.inside
