-- The path line, then the step lines. Assumes nothing.
use Rattle.std.proofs.Common.{arith}
use Rattle.digits.proofs.Writing.{wrote_then}
use Rattle.trace.proofs.Replays.{trace_parts, trace_room}
use Rattle.trace.proofs.write.put_trace.Goals as goal

pub put_path-requires : goal.put_path-requires
put_path-requires c = (c.requires.route.few, omega (arith, trace_room c.requires.route c.args.weight _ _ c.requires.room))

pub put_steps-requires : goal.put_steps-requires
put_steps-requires c = record { route = c.requires.route; room = omega (arith, trace_room c.requires.route c.args.weight _ _ c.requires.room, c.put_path.ensures) }

pub returns : goal.returns
returns c = rw (trace_parts c.requires.route c.args.weight) (wrote_then c.put_path.ensures c.put_steps.ensures)
