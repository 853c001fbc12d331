use Rattle.unfold_exits.specs.Lists.{Gathered}
use Rattle.unfold_exits.specs.Exits.{LeavesBy}
use Rattle.unfold_exits.proofs.levels.list_word.Given as goal

abbrev pub invariant-loop-e : goal.invariant-loop-e
invariant-loop-e l = Gathered (LeavesBy l.size l.tables.weight.now l.tables.count.now l.level.choice.now l.level.at) l.e l.exits
