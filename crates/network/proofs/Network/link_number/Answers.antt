use Prim.Native.Nat.{◌≤◌}
use Rattle.network_records.specs.Columns.{number}
use Rattle.network.proofs.Fields.{link_in, ranged}
use Rattle.network.proofs.Network.link_number.Goals as goal

pub link_number-requires : goal.link_number-requires
link_number-requires c = link_in _ _ _ c.link_room.ensures.arranged c.requires c.link_room.ensures.part

pub returns : goal.returns
returns c =
    let a = c.args in
    ranged number (λ k. k ≤ 65535) _ _ _ _ c.link_number.ensures c.link_room.ensures.part (c.link_room.ensures.arranged.valid.link_number a.i c.requires)
