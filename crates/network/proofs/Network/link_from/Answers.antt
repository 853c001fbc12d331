use Prim.Native.Nat.{◌<◌}
use Rattle.network_records.specs.Columns.{from}
use Rattle.network.specs.Network.{nodes}
use Rattle.network.proofs.Fields.{link_in, ranged}
use Rattle.network.proofs.Network.link_from.Goals as goal

pub link_from-requires : goal.link_from-requires
link_from-requires c = link_in _ _ _ c.link_room.ensures.arranged c.requires c.link_room.ensures.part

pub returns : goal.returns
returns c =
    let a = c.args in
    ranged from (λ k. k < nodes a.self.now) _ _ _ _ c.link_from.ensures c.link_room.ensures.part (c.link_room.ensures.arranged.valid.link_from a.i c.requires)
