use Rattle.network.specs.Network.{links}
use Rattle.network.specs.Next.{leaves}
use Rattle.unfold_tries.specs.Trial.{OverLink}
use Rattle.unfold_tries.proofs.Better.{Walk}
use Rattle.unfold_tries.proofs.links.try_links.Given as goal

abbrev pub invariant-loop-i : goal.invariant-loop-i
invariant-loop-i l =
    Walk (leaves l.solved.net.now l.at.node) (OverLink l.solved.net.now l.solved.tables.weight.now l.solved.tables.count.now l.exits l.at l.f) (links l.solved.net.now) l.initial.i-iterator l.i-iterator l.initial.found l.found
