use Prim.Native.Nat.{◌<◌}
use Rattle.network_records.specs.Columns.{node}
use Rattle.network.specs.Network.{nodes}
use Rattle.network.proofs.Fields.{fun_in, ranged}
use Rattle.network.proofs.Network.fun_node.Goals as goal

pub fun_node-requires : goal.fun_node-requires
fun_node-requires c = fun_in _ _ _ c.fun_room.ensures.arranged c.requires c.fun_room.ensures.part

pub returns : goal.returns
returns c =
    let a = c.args in
    ranged node (λ k. k < nodes a.self.now) _ _ _ _ c.fun_node.ensures c.fun_room.ensures.part (c.fun_room.ensures.arranged.valid.fun_node a.j c.requires)
