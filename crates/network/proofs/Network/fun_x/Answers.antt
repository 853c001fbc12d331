use Prim.Native.Nat.{◌<◌}
use Rattle.network_records.specs.Columns.{x_of}
use Rattle.network.specs.Network.{protocols}
use Rattle.network.proofs.Fields.{fun_in, ranged}
use Rattle.network.proofs.Network.fun_x.Goals as goal

pub fun_x-requires : goal.fun_x-requires
fun_x-requires c = fun_in _ _ _ c.fun_room.ensures.arranged c.requires c.fun_room.ensures.part

pub returns : goal.returns
returns c =
    let a = c.args in
    ranged x_of (λ k. k < protocols a.self.now) _ _ _ _ c.fun_x.ensures c.fun_room.ensures.part (c.fun_room.ensures.arranged.valid.fun_x a.j c.requires)
