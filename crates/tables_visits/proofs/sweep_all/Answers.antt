use native.Mathlib.Omega.{arith}
use borrow.Author.Rules.{rules}
use mathlib.Core.Path.{◌≡◌, ◌∙◌}
use Rattle.tables_visits.proofs.Turns.{still_sweeping, turned_back, turned_on, turning}
use Rattle.tables_sweeps.proofs.Passes.{passing_start, passing_turn}
use Rattle.tables_sweeps.specs.Sweep.{sweep, turned}
use Rattle.tables_visits.proofs.sweep_all.Goals as goal
use Rattle.tables_visits.proofs.sweep_all.Goals.{then-back, else-back}

pub loop-k-init : goal.loop-k-init
loop-k-init c = (search rules, search rules, passing_start _ _ _ _ _)

pub visit_node-any-requires : goal.visit_node-any-requires
visit_node-any-requires c =
    let i = c.loop-k.invariant in
    (still_sweeping _ _ _ c.requires i.0.2 i.0.3 i.1, elim c.if-back.branch [ then-back w ↦ omega arith | else-back w ↦ omega arith ])

pub loop-k-preserved : goal.loop-k-preserved
loop-k-preserved c =
    let e : c.if-back.v ≡ turned c.args.back c.nodes-n.result c.loop-k.k = elim c.if-back.branch [ then-back w ↦ w.v-is ∙ turned_back _ _ _ w.if-back.true | else-back w ↦ w.v-is ∙ turned_on _ _ _ w.if-back.false ] in
    (search rules, search rules, passing_turn _ _ _ _ _ _ _ _ c.loop-k.invariant.2 (turning _ _ _ _ _ _ _ _ _ e c.visit_node-any.ensures.passing))

pub returns-clause-passing : goal.returns-clause-passing
unfolding sweep
returns-clause-passing c =
    let e : c.loop-k.k ≡ c.nodes-n.result = omega arith in
    rw (e, c.nodes-n.ensures.0) at c.loop-k.invariant.2
