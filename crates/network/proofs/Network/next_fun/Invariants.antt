use Rattle.network.specs.Network.{fun_start}
use Rattle.network.specs.Next.{suits}
use Rattle.network.proofs.Groups.{Walked}
use Rattle.network.proofs.Network.next_fun.Given as goal

abbrev pub invariant-loop-k : goal.invariant-loop-k
invariant-loop-k l = Walked (fun_start l.self) (suits l.self l.v l.kind l.x) l.j l.v l.k
