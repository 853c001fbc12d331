-- The loop keeps: the numbers from the index on are left to write. Assumes nothing.
use mathlib.Core.List.{map}
use lib.ListN.{drop}
use Rattle.paper.specs.Text.{decimal, tabbed}
use Rattle.digits.specs.Write.{Leaves}
use Rattle.digits.proofs.write.Writer.fields.Given as goal

abbrev pub invariant-loop-n : goal.invariant-loop-n
invariant-loop-n l = Leaves l.initial.self l.self (tabbed (map decimal l.numbers)) (tabbed (map decimal (drop l.n-index l.numbers)))
