-- The loop keeps: the last k digits of n are left to write. Assumes nothing.
use Rattle.paper.specs.Text.{decimal}
use Rattle.digits.specs.Digits.{last_digits}
use Rattle.digits.specs.Write.{Leaves}
use Rattle.digits.proofs.write.Writer.number.Given as goal

abbrev pub invariant-loop-k : goal.invariant-loop-k
invariant-loop-k l = Leaves l.initial.self l.self (decimal l.n) (last_digits l.k l.n)
