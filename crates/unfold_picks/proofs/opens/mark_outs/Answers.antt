use mathlib.Core.Path.{◌≡◌, refl, ◌∙◌}
use native.Mathlib.Omega.{arith}
use lib.ListN.{length}
use Rattle.unfold_picks.proofs.Adding.{meets_none, meets_more, still_marking}
use Rattle.unfold_picks.proofs.opens.mark_outs.Goals as goal

pub loop-out-init : goal.loop-out-init
loop-out-init c = (meets_none _ _ _ _ _, refl)

pub mark_out-requires : goal.mark_out-requires
mark_out-requires c =
    let p = still_marking c.requires c.loop-out.invariant.1 in
    let i = c.loop-out.out-index in
    record { row = p.row_room; out = (p.ranged.place_below i c.loop-out-test.true, p.ranged.cost_below i c.loop-out-test.true); record_room = p.record_room }

pub loop-out-preserved : goal.loop-out-preserved
loop-out-preserved c = let l = c.loop-out in let s = c.mark_out in (meets_more _ _ _ _ _ l.out-index l.invariant.0 s.ensures, s.auto.choice ∙ l.invariant.1)

pub returns : goal.returns
returns c = let l = c.loop-out in let e : l.out-index ≡ length c.args.outs.now = omega arith in rw e at l.invariant.0
