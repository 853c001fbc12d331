-- The steps left fall with each call, twice counted, since `level` calls `tunnel` where it stands; the loop keeps where the level has gone. Assumes nothing.
use Rattle.std.proofs.Common.{◌+◌, ◌*◌}
use Rattle.unfold.specs.Contract.{Went}
use Rattle.unfold.proofs.levels.+level_tunnel.Given as goal

abbrev pub decreases-level : goal.decreases-level
decreases-level l = 2 * l.at.left + 1

abbrev pub decreases-tunnel : goal.decreases-tunnel
decreases-tunnel l = 2 * l.at.left

abbrev pub invariant-level-loop-here : goal.invariant-level-loop-here
invariant-level-loop-here l = Went l.solved.net.now l.solved.tables.weight.now l.solved.tables.count.now l.course l.initial.choice l.choice l.initial.steps l.steps l.initial.here l.here

abbrev pub decreases-level-loop-here : goal.decreases-level-loop-here
decreases-level-loop-here l = l.here.left
