use Rattle.unfold_exits.proofs.Landings.{landed_none, landed_most, tunnel_listed}
use Rattle.unfold_exits.proofs.tunnels.list_tunnel.Goals as goal

pub land_all-requires : goal.land_all-requires
land_all-requires c = (c.requires, landed_none _ _ _ _ _ 256 c.args.solved.now.arranged.valid.nodes)

pub list_funs-requires : goal.list_funs-requires
list_funs-requires c = let l = c.land_all.ensures in record { some = l.some; most = landed_most _ _ _ _ _ l }

pub returns : goal.returns
returns c = tunnel_listed c.args.solved.now.arranged c.land_all.ensures c.list_funs.ensures
