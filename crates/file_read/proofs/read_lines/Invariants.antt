-- The loop keeps: the cursor is one of the file, and what the lines before it come to stands in the rooms. Assumes nothing.
use Rattle.std.proofs.Common.{◌≡◌, ◌-◌, length}
use Rattle.file_read.proofs.Turns.{Stands}
use Rattle.file_read.proofs.read_lines.Given as goal

abbrev pub invariant-loop-cursor : goal.invariant-loop-cursor
invariant-loop-cursor l = (l.cursor.file.now ≡ l.file) × Stands l.file l.initial.links l.initial.funs l.line l.cursor.at l.size l.links l.funs

abbrev pub decreases-loop-cursor : goal.decreases-loop-cursor
decreases-loop-cursor l = length l.file - l.cursor.at
