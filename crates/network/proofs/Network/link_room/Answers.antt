use Rattle.std.proofs.Common.{rules}
use Rattle.network.specs.Network.{links_begin}
use Rattle.network.proofs.Fields.{part_on}
use Rattle.network.proofs.Network.link_room.Goals as goal

pub returns : goal.returns
returns c = record { part = part_on links_begin _ _ c.self.view_is; arranged = search rules }
