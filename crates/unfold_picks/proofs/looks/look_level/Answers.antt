use Rattle.unfold_picks.proofs.Sought.{looked_reading, looked_lists, looked_trying}
use Rattle.unfold_picks.proofs.looks.look_level.Goals as goal

pub list_level-requires : goal.list_level-requires
list_level-requires c = looked_reading c.requires c.places.ensures.0 c.args.solved.now.square

pub try_funs-requires : goal.try_funs-requires
try_funs-requires c = rw c.listed.ensures (looked_trying c.requires c.places.ensures.0 c.list_level.ensures.0)

pub returns : goal.returns
returns c = record { E = _; lists = looked_lists c.requires c.places.ensures.0 c.list_level.ensures.1; better = rw c.listed.ensures at c.try_funs.ensures }
