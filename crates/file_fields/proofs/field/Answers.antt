-- The field is the first of those that are left. Assumes nothing.
use Rattle.file_fields.proofs.Cutting.{field_there, no_field}
use Rattle.file_fields.proofs.field.Goals as goal

pub returns-in_err-rest : goal.returns-in_err-rest
returns-in_err-rest c = rw c.from_residual.ensures (no_field _ _ _ c.from_field.ensures c.in_err-rest.was)

pub returns : goal.returns
returns c = field_there _ _ _ c.from_field.ensures _ _ _ c.in_ok-rest.was c.cut.ensures
