use mathlib.Core.Path.{refl}
use Rattle.unfold_picks.proofs.Sought.{looked_trying, no_wraps}
use Rattle.unfold_picks.proofs.looks.look_tunnel.Goals as goal

pub returns-then-is_none : goal.returns-then-is_none
returns-then-is_none c = no_wraps c.args.solved.now.net.now c.args.at _ c.first_fun.ensures.first c.if-is_none.ensures

pub try_funs-requires : goal.try_funs-requires
try_funs-requires c = rw c.listed.ensures (looked_trying c.requires refl c.list_outward.ensures.ranged)

pub returns : goal.returns
returns c = record { O = _; outward = λ j h s. c.list_outward.ensures; better = rw c.listed.ensures at c.try_funs.ensures }
