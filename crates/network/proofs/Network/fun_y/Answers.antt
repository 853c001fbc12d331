use Prim.Native.Nat.{◌<◌}
use Rattle.network_records.specs.Columns.{y_of}
use Rattle.network.specs.Network.{protocols}
use Rattle.network.proofs.Fields.{fun_in, ranged}
use Rattle.network.proofs.Network.fun_y.Goals as goal

pub fun_y-requires : goal.fun_y-requires
fun_y-requires c = fun_in _ _ _ c.fun_room.ensures.arranged c.requires c.fun_room.ensures.part

pub returns : goal.returns
returns c =
    let a = c.args in
    ranged y_of (λ k. k < protocols a.self.now) _ _ _ _ c.fun_y.ensures c.fun_room.ensures.part (c.fun_room.ensures.arranged.valid.fun_y a.j c.requires)
