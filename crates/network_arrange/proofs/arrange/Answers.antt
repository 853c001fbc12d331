use Prim.Native.Nat.{◌≤◌}
use native.Mathlib.Omega.{arith}
use lib.ListN.{length}
use Rattle.network.specs.Network.{room_size}
use Rattle.network_arrange.proofs.LayingOut.{arranged_so}
use Rattle.network_arrange.proofs.Arranging.{links_groupable, funs_groupable, arranged, leads}
use borrow.Author.Rules.{rules}
use Rattle.network_arrange.proofs.arrange.Goals as goal

pub invariant_of-funs : goal.invariant_of-funs
invariant_of-funs c = record { groupable = funs_groupable _ _ _ c.requires.0 }

pub returns : goal.returns
returns c =
    let p = c.requires in
    let g = c.lay_out-2.new.net in
    let laid = arranged_so _ _ _ c.args.net.now _ _ g (links_groupable _ _ _ p.0) (omega arith) c.head.ensures c.lay_out.ensures c.lay_out-2.ensures in
    let room : room_size ≤ length g = search rules in
    record { laid = laid; arranged = arranged _ _ _ p.0 g room laid; leads = leads _ _ _ p.0 g room laid }
