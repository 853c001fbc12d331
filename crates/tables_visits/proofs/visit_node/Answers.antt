use native.Mathlib.Omega.{arith}
use mathlib.Core.Path.{◌≡◌}
use Rattle.network.specs.Network.{protocols}
use borrow.Author.Rules.{rules}
use Rattle.tables_visits.proofs.Turns.{still_sweeping}
use Rattle.tables_sweeps.proofs.Passes.{passing_start, passing_turn}
use Rattle.tables_sweeps.specs.Sweep.{node_rows}
use Rattle.tables_visits.proofs.visit_node.Goals as goal

pub loop-x-init : goal.loop-x-init
loop-x-init c = (search rules, search rules, passing_start _ _ _ _ _)

pub visit-any-requires : goal.visit-any-requires
visit-any-requires c =
    let i = c.loop-x.invariant in
    let q = c.requires in
    (still_sweeping _ _ _ q.0 i.0.2 i.0.3 i.1, (q.1, search rules))

pub loop-x-preserved : goal.loop-x-preserved
loop-x-preserved c = (search rules, search rules, passing_turn _ _ _ _ _ _ _ _ c.loop-x.invariant.2 c.visit-any.ensures.passing)

pub returns-clause-passing : goal.returns-clause-passing
unfolding node_rows
returns-clause-passing c =
    let e : c.loop-x.x ≡ protocols c.args.net.now = omega arith in
    rw e at c.loop-x.invariant.2
