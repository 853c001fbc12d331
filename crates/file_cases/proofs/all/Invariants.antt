-- Fewer bytes are left after each case. Assumes nothing.
use lib.ListN.{length}
use Rattle.file_cases.proofs.all.Given as goal

abbrev pub decreases-loop-name : goal.decreases-loop-name
decreases-loop-name g l = length l.cases
