use Rattle.std.proofs.lemmas.Result.{err_from_is_err_and}
use Rattle.file_read.proofs.Turns.{whole_on, cut_on}
use Rattle.file_read.proofs.take_record.Goals as goal

pub returns-clause-adds : goal.returns-clause-adds
returns-clause-adds c = λ i. whole_on _ _ _ _ c.in_ok-line.ensures.0 i _ _ c.read_record.ensures.adds

pub returns-in_err-line-clause-adds : goal.returns-in_err-line-clause-adds
returns-in_err-line-clause-adds c =
    let p = err_from_is_err_and c.from_residual.result c.from_residual.ensures.1 in
    let f = c.in_err-line.ensures in
    λ i. rw (p.1, p.2) (cut_on _ _ i _ _ _ f.0 f.1 c.requires.0)
