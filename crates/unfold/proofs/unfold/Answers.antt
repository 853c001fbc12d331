use Prim.Native.Nat.{◌-◌, ◌*◌}
use mathlib.Core.Path.{◌∙◌}
use native.Mathlib.Omega.{arith}
use lib.ListN.{length-take}
use Rattle.unfold.proofs.Enquiry.{part_asks, part_cleared, room_is}
use Rattle.unfold.proofs.unfold.Goals as goal

pub overflow_mul-room : goal.overflow_mul-room
overflow_mul-room c = omega (arith, room_is c.places-size.ensures.0, c.requires.choices)

pub overflow_mul-room-2 : goal.overflow_mul-room-2
overflow_mul-room-2 c = omega (arith, room_is c.places-size.ensures.0, c.requires.choices)

pub slice_bounds-write_route-end : goal.slice_bounds-write_route-end
slice_bounds-write_route-end c = omega (arith, room_is c.places-size.ensures.0, c.requires.choices)

pub invariant_of-solved : goal.invariant_of-solved
invariant_of-solved c =
    let o = c.places-size.ensures.3 in
    record { arranged = o; square = record { small = o.valid.places; weights = c.requires.weights; counts = c.requires.counts } }

pub write_route-requires : goal.write_route-requires
write_route-requires c =
    let p = c.requires in
    part_asks c.places-size.ensures.3 p (rw length-take (omega (arith, room_is c.places-size.ensures.0, p.choices)))

pub clear-requires : goal.clear-requires
clear-requires c = omega (arith, room_is c.places-size.ensures.0, c.requires.choices)

pub returns : goal.returns
returns c =
    let r = c.write_route in
    let size = c.places-size.result in
    record {
      route = r.ensures;
      choices = c.clear.ensures ∙ part_cleared c.args.choice.now r.new.choice (8 * (size * size)) (8 * (size * size) - 0) (room_is c.places-size.ensures.0) (omega arith) c.requires.choices r.auto.choice;
    }
