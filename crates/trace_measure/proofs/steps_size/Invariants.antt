-- The loop keeps: however many bytes the lines have, what is counted and the lines left make them up. Assumes nothing.
use Prim.Native.Nat.{ℕ}
use Rattle.trace_replay.proofs.Entries.{keys_left}
use Rattle.trace_measure.proofs.Tallies.{Tallied}
use Rattle.trace_measure.proofs.steps_size.Given as goal

abbrev pub invariant-loop-i : goal.invariant-loop-i
invariant-loop-i l = (n : ℕ) → Tallied l.net (keys_left l.steps.room.now l.steps.count 0) n l.initial.t → Tallied l.net (keys_left l.steps.room.now l.steps.count l.i) n l.t
