use Prim.Native.Nat.{◌≤◌}
use Rattle.network_records.specs.Columns.{fee}
use Rattle.network.proofs.Fields.{fun_in, ranged}
use Rattle.network.proofs.Network.fun_weight.Goals as goal

pub fun_weight-requires : goal.fun_weight-requires
fun_weight-requires c = fun_in _ _ _ c.fun_room.ensures.arranged c.requires c.fun_room.ensures.part

pub returns : goal.returns
returns c =
    let a = c.args in
    ranged fee (λ k. k ≤ 1000000000) _ _ _ _ c.fun_weight.ensures c.fun_room.ensures.part (c.fun_room.ensures.arranged.valid.fun_weight a.j c.requires)
