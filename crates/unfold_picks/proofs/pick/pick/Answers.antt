use mathlib.Core.Path.{refl}
use native.Mathlib.Omega.{arith}
use Rattle.unfold_picks.proofs.Standing.{record_room, look_here, look_below, pick_bottom, pick_inner, one_at_least}
use Rattle.unfold_picks.proofs.pick.pick.Goals as goal

pub overflow_mul-level : goal.overflow_mul-level
overflow_mul-level c = omega (arith, record_room c.args.solved.now.arranged c.requires.1 _ _ c.record_length-length.ensures.0 refl)

pub look_level-on-requires : goal.look_level-on-requires
look_level-on-requires c = let p = c.requires in look_here c.args.solved.now.arranged p.1 _ _ c.record_length-length.ensures.0 refl p.0

pub look_tunnel-into-requires : goal.look_tunnel-into-requires
look_tunnel-into-requires c = let p = c.requires in look_here c.args.solved.now.arranged p.1 _ _ c.record_length-length.ensures.0 refl p.0

pub returns-then-k-eq0 : goal.returns-then-k-eq0
returns-then-k-eq0 c =
    pick_bottom c.args.k c.args.solved.now.arranged c.requires.1 _ _ c.record_length-length.ensures.0 refl c.requires.0 c.if-k-eq0.true (rw c.nothing.ensures at c.look_level-on.ensures) c.look_tunnel-into.ensures

pub overflow_sub-above : goal.overflow_sub-above
overflow_sub-above c = one_at_least _ _ c.if-k-eq0.false

pub look_level-requires : goal.look_level-requires
look_level-requires c = look_below c.args.k c.args.solved.now.arranged c.requires.1 _ _ c.record_length-length.ensures.0 refl c.requires.0 c.if-k-eq0.false

pub returns : goal.returns
returns c =
    pick_inner c.args.k c.args.solved.now.arranged c.requires.1 _ _ _ c.record_length-length.ensures.0 refl c.requires.0 c.if-k-eq0.false c.hidden.ensures.0 (rw c.nothing.ensures at c.look_level-on.ensures) c.look_tunnel-into.ensures c.look_level.ensures
