use Prim.Native.Nat.{◌*◌}
use Rattle.unfold_exits.specs.Lists.{Gathered}
use Rattle.unfold_exits.specs.Exits.{LeavesBy}
use Rattle.unfold_exits.proofs.levels.list_level.Given as goal

abbrev pub invariant-loop-q : goal.invariant-loop-q
invariant-loop-q l = Gathered (LeavesBy l.size l.tables.weight.now l.tables.count.now l.level.choice.now l.level.at) (16 * l.q) l.exits
