use Rattle.unfold_picks.proofs.Adding.{exit_below, exit_marked, exit_left}
use Rattle.unfold_picks.proofs.opens.mark_out.Goals as goal

pub add_mark-requires : goal.add_mark-requires
add_mark-requires c = let p = c.requires in exit_below _ _ c.args.out.now.place _ p.out.0 p.record_room

pub returns-then-over_exit-left : goal.returns-then-over_exit-left
returns-then-over_exit-left c = let p = c.requires in exit_marked c.args.out.now c.args.left _ c.over_exit.ensures c.if-over_exit-left.true p.out.0 p.record_room c.add_mark.ensures

pub returns-else-over_exit-left : goal.returns-else-over_exit-left
returns-else-over_exit-left c = exit_left c.args.out.now c.args.left _ c.over_exit.ensures c.if-over_exit-left.false
