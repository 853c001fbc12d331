use Rattle.std.proofs.lemmas.Result.{err_from_is_err_and}
use Rattle.file_read.proofs.Turns.{whole_top, cut_top}
use Rattle.file_read.proofs.take_header.Goals as goal

pub returns-clause-opens : goal.returns-clause-opens
returns-clause-opens c = λ ls fs. whole_top _ _ _ _ c.in_ok-line.ensures.0 _ c.requires (c.read_header.ensures.opens ls fs)

pub returns-in_err-line-clause-opens : goal.returns-in_err-line-clause-opens
returns-in_err-line-clause-opens c =
    let p = err_from_is_err_and c.from_residual.result c.from_residual.ensures.1 in
    let f = c.in_err-line.ensures in
    λ ls fs. rw (p.1, p.2) (cut_top _ _ _ _ c.requires f.0 f.1)
