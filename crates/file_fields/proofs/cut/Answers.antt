-- The line is cut at its first tab, if it has one. Assumes nothing.
use Rattle.file_fields.proofs.Cutting.{first_cut, only_cut}
use Rattle.file_fields.proofs.cut.Goals as goal

pub returns-in-Some : goal.returns-in-Some
returns-in-Some c = first_cut _ _ c.in-Some.ensures

pub returns-in-None : goal.returns-in-None
returns-in-None c = only_cut _ c.in-None.ensures
