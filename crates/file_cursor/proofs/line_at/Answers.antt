-- The line ends at the first LF of what is left. Assumes nothing.
use Rattle.file_cursor.proofs.First.{is_cut, is_whole}
use Rattle.file_cursor.proofs.line_at.Goals as goal

pub returns-in_err-end : goal.returns-in_err-end
returns-in_err-end c = rw c.from_residual-in_err-end.ensures (is_cut c.args.file.now _ c.args.at c.in_ok-rest.ensures.lookup.0.2 c.in_err-end.ensures)

pub returns : goal.returns
returns c = let g = c.in_ok-rest.ensures.lookup.0 in is_whole _ _ _ _ g.0 g.2 c.in_ok-end.ensures
