-- The loop keeps: what is left of the steps and of their lines, after the stack and the packet so far. Assumes nothing.
use Rattle.paper.specs.Trace.{step_lines}
use Rattle.network.specs.Network.{hop_in}
use Rattle.trace_replay.specs.Keys.{keys}
use Rattle.trace_replay.specs.Packet.{source}
use Rattle.trace.proofs.Replays.{Replayed}
use Rattle.trace.proofs.write.put_steps.Given as goal

abbrev pub invariant-loop-i : goal.invariant-loop-i
invariant-loop-i l =
    Replayed l.net l.steps.room.now l.steps.count l.i (step_lines (hop_in l.net) (keys l.steps) (source l.steps.start)) l.initial.w l.w l.stack l.packet
