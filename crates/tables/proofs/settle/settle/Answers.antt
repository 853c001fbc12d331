use borrow.Author.Rules.{rules}
use mathlib.Core.Path.{refl, ◌∙◌}
use Rattle.tables.proofs.Settling.{settling_begun, settling_turn, left_less, settled}
use Rattle.tables_visits.proofs.Turns.{still_sweeping}
use Rattle.tables.proofs.settle.settle.Goals as goal

pub prepare-requires : goal.prepare-requires
prepare-requires c = rw c.places.ensures.0 c.requires.roomy

pub loop-done-init : goal.loop-done-init
loop-done-init c = (search rules, settling_begun _ _ _ _ _ _ _ c.requires.roomy (rw c.places.ensures.0 at c.prepare.ensures.prepared))

pub sweep_all-fell-requires : goal.sweep_all-fell-requires
sweep_all-fell-requires c =
    let k = c.loop-done.invariant.0 in
    let b = c.prepare.ensures.same_rooms in
    still_sweeping _ _ _ c.requires (k.2 ∙ b.2) (k.3 ∙ b.3) c.loop-done.invariant.1.stamps

pub loop-done-smaller : goal.loop-done-smaller
loop-done-smaller c = left_less _ _ _ _ _ _ _ _ _ _ _ _ c.places.ensures.3 c.sweep_all-fell.ensures.passing refl _ _ _ _ _ c.loop-done.invariant.1 c.loop-done-test.true c.since_when-since.ensures

pub loop-done-preserved : goal.loop-done-preserved
loop-done-preserved c =
    (search rules, settling_turn _ _ _ _ _ _ _ _ _ _ _ _ c.places.ensures.3 c.sweep_all-fell.ensures.passing refl _ _ _ _ c.loop-done.invariant.1 c.sweep_all-fell.auto.stamps)

pub returns-clause-filled : goal.returns-clause-filled
returns-clause-filled c = settled _ _ _ _ _ _ _ _ _ _ c.places.ensures.3 c.requires.roomy (rw c.places.ensures.0 at c.prepare.ensures.prepared) _ c.loop-done.invariant.1 c.loop-done-test.false
