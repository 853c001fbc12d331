-- The loops keep: the writer writes into the room that was passed. Assumes nothing.
use Rattle.digits.specs.Write.{SameRoom}
use Rattle.file_cases.proofs.many.records.Given as goal

abbrev pub invariant-loop-l : goal.invariant-loop-l
invariant-loop-l l = SameRoom l.fn.w l.w

abbrev pub invariant-loop-i : goal.invariant-loop-i
invariant-loop-i l = SameRoom l.fn.w l.w
