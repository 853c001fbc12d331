use Rattle.tables_sweeps.specs.Row.{crossing}
use Rattle.network.specs.Network.{links}
use Rattle.network.specs.Next.{leaves}
use Rattle.tables_reach.proofs.Scans.{Walk}
use lib.ListN.{length}
use mathlib.Core.Path.{◌≡◌}
use Rattle.tables_reach.proofs.steps.step_links.Given as goal

abbrev pub invariant-loop-i : goal.invariant-loop-i
invariant-loop-i l =
    (length l.a ≡ length l.initial.a) × Walk (leaves l.net l.v) (crossing l.net l.v l.j) (links l.net) l.initial.i-iterator l.i-iterator l.initial.a l.a
