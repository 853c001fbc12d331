-- The size, then the lines; an accepted file leaves valid records. Assumes nothing.
use mathlib.Core.Path.{sym, ◌∙◌}
use borrow.Author.Tests.{eqb-true}
use Rattle.file_read.proofs.File.{file_large, file_empty, file_small, valid_if}
use Rattle.file_read.proofs.read.Goals as goal

pub returns-then-file-gt-MOST_BYTES-clause-judged : goal.returns-then-file-gt-MOST_BYTES-clause-judged
returns-then-file-gt-MOST_BYTES-clause-judged c = file_large _ c.if-file-gt-MOST_BYTES.true

pub returns-then-is_empty-clause-judged : goal.returns-then-is_empty-clause-judged
returns-then-is_empty-clause-judged c = file_empty _ (eqb-true _ _ (sym c.is_empty.ensures ∙ c.if-is_empty.true))

pub returns-clause-judged : goal.returns-clause-judged
returns-clause-judged c = c.read_lines.ensures.judged ∙ file_small _ c.if-file-gt-MOST_BYTES.false

pub returns-clause-valid : goal.returns-clause-valid
returns-clause-valid c = valid_if _ _ _ _ _ _ (c.read_lines.ensures.judged ∙ file_small _ c.if-file-gt-MOST_BYTES.false) c.read_lines.ensures.held
