use Rattle.tables_sweeps.specs.Row.{serving}
use Rattle.paper.specs.Net.{code}
use Rattle.network_records.specs.Kinds.{named}
use Rattle.network.specs.Network.{funs}
use Rattle.network.specs.Next.{stands}
use Rattle.tables_reach.proofs.Scans.{Walk}
use lib.ListN.{length}
use mathlib.Core.Path.{◌≡◌}
use Rattle.tables_reach.proofs.steps.step_all.Given as goal

abbrev pub invariant-loop-j : goal.invariant-loop-j
invariant-loop-j l =
    (length l.a ≡ length l.initial.a) × Walk (stands l.net l.at.node) (serving l.net l.at.node (code (named l.kind)) l.at.protocol) (funs l.net) l.initial.j-iterator l.j-iterator l.initial.a l.a
