-- The field is compared byte by byte; a missing one is no word. Assumes nothing.
use Rattle.std.proofs.Common.{◌∙◌}
use Rattle.file_fields.proofs.Parts.{compared}
use Rattle.file_fields.proofs.field_is.Goals as goal

pub returns : goal.returns
returns c = c.eq.ensures ∙ compared _ _ c.field.result c.args.word c.field.ensures c.requires
