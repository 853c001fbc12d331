use Rattle.unfold_exits.specs.Exits.{Landed}
use Rattle.unfold_exits.proofs.tunnels.land_all.Given as goal

abbrev pub invariant-loop-i : goal.invariant-loop-i
invariant-loop-i l = Landed l.solved.net.now l.solved.tables.weight.now l.solved.tables.count.now l.exits l.x l.i l.lands
