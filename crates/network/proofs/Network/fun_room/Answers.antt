use Rattle.std.proofs.Common.{rules}
use Rattle.network.specs.Network.{funs_begin}
use Rattle.network.proofs.Fields.{part_on}
use Rattle.network.proofs.Network.fun_room.Goals as goal

pub returns : goal.returns
returns c = record { part = part_on funs_begin _ _ c.self.view_is; arranged = search rules }
