-- The loop keeps: the fields before the i-th are numbers, and stand in the room; what is left holds the fields from the i-th on. Assumes nothing.
use Rattle.std.proofs.Common.{◌≡◌, ◌+◌, drop, length}
use Rattle.paper.specs.Text.{fields}
use Rattle.file_fields.specs.Fields.{left}
use Rattle.file_fields.proofs.Gathering.{Gathered}
use Rattle.file_fields.proofs.gather.Given as goal

abbrev pub invariant-loop-i : goal.invariant-loop-i
invariant-loop-i l = Gathered l.line l.k (length l.fn.out) l.i l.out × (left l.rest ≡ drop (l.k + l.i) (fields l.line))
