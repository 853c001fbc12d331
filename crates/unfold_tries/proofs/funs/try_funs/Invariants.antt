use Rattle.network.specs.Network.{funs}
use Rattle.network.specs.Next.{stands}
use Rattle.unfold_tries.specs.Trial.{ByFun}
use Rattle.unfold_tries.proofs.Better.{Walk}
use Rattle.unfold_tries.proofs.funs.try_funs.Given as goal

abbrev pub invariant-loop-j : goal.invariant-loop-j
invariant-loop-j l =
    Walk (stands l.solved.net.now l.at.node) (ByFun l.solved.net.now l.solved.tables.weight.now l.solved.tables.count.now l.exits l.at l.kind l.hidden) (funs l.solved.net.now) l.initial.j-iterator l.j-iterator l.initial.found l.found
