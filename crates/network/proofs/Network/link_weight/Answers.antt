use Prim.Native.Nat.{◌≤◌}
use Rattle.network_records.specs.Columns.{toll}
use Rattle.network.proofs.Fields.{link_in, ranged}
use Rattle.network.proofs.Network.link_weight.Goals as goal

pub link_weight-requires : goal.link_weight-requires
link_weight-requires c = link_in _ _ _ c.link_room.ensures.arranged c.requires c.link_room.ensures.part

pub returns : goal.returns
returns c =
    let a = c.args in
    ranged toll (λ k. k ≤ 1000000000) _ _ _ _ c.link_weight.ensures c.link_room.ensures.part (c.link_room.ensures.arranged.valid.link_weight a.i c.requires)
