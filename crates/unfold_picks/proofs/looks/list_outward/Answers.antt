use Rattle.unfold_picks.proofs.Sought.{looked_reading, looked_lists, looked_crossing}
use Rattle.unfold_picks.proofs.looks.list_outward.Goals as goal

pub list_level-requires : goal.list_level-requires
list_level-requires c = looked_reading c.requires c.places.ensures.0 c.args.solved.now.square

pub list_tunnel-requires : goal.list_tunnel-requires
list_tunnel-requires c = rw c.listed.ensures (looked_crossing c.requires c.places.ensures.0 c.list_level.ensures.0)

pub returns : goal.returns
returns c =
    let t = rw c.listed.ensures at c.list_tunnel.ensures in
    record { E = _; lists = looked_lists c.requires c.places.ensures.0 c.list_level.ensures.1; gathered = t.1; ranged = t.0 }
