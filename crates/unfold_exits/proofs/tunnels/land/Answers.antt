use Rattle.unfold_exits.proofs.Landings.{crossed_is, landed_more}
use Rattle.unfold_exits.proofs.tunnels.land.Goals as goal

pub returns : goal.returns
returns c = let f = c.link_from-from.ensures in landed_more _ _ _ _ _ c.args.i _ _ c.requires.2 f.0 (rw (← f.0) f.1) (crossed_is _ _ _ _ _ c.args.i _ c.over_link.ensures) (rw c.min.ensures)
