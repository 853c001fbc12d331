use Prim.Native.Nat.{◌<◌}
use Rattle.network_records.specs.Columns.{to}
use Rattle.network.specs.Network.{nodes}
use Rattle.network.proofs.Fields.{link_in, ranged}
use Rattle.network.proofs.Network.link_to.Goals as goal

pub link_to-requires : goal.link_to-requires
link_to-requires c = link_in _ _ _ c.link_room.ensures.arranged c.requires c.link_room.ensures.part

pub returns : goal.returns
returns c =
    let a = c.args in
    ranged to (λ k. k < nodes a.self.now) _ _ _ _ c.link_to.ensures c.link_room.ensures.part (c.link_room.ensures.arranged.valid.link_to a.i c.requires)
