use Prim.Native.Nat.{◌<◌}
use Rattle.network_records.specs.Columns.{kind}
use Rattle.network.proofs.Fields.{fun_in, ranged}
use Rattle.network.proofs.Network.fun_kind.Goals as goal

pub fun_kind-requires : goal.fun_kind-requires
fun_kind-requires c = fun_in _ _ _ c.fun_room.ensures.arranged c.requires c.fun_room.ensures.part

pub returns : goal.returns
returns c =
    let a = c.args in
    ranged kind (λ k. k < 3) _ _ _ _ c.fun_kind.ensures c.fun_room.ensures.part (c.fun_room.ensures.arranged.valid.fun_kind a.j c.requires)
