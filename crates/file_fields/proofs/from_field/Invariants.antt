-- The loop keeps: what is left holds the fields past those that were cut off. Assumes nothing.
use Rattle.std.proofs.Common.{◌≡◌, drop}
use Rattle.paper.specs.Text.{fields}
use Rattle.file_fields.specs.Fields.{left}
use Rattle.file_fields.proofs.from_field.Given as goal

abbrev pub invariant-loop : goal.invariant-loop
invariant-loop l = left l.rest ≡ drop l.counter (fields l.line)
