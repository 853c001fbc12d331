-- The line is put on top of what is kept, as its kind of line is. Assumes nothing.
use mathlib.Core.Path.{◌∙◌}
use Rattle.network_records.specs.Columns.{net_of}
use Rattle.std.proofs.lemmas.Result.{err_from_is_err_and}
use Rattle.file_read.proofs.Told.{said_link, said_fun, said_net, said_none}
use Rattle.file_read.proofs.read_record.Goals as goal

pub returns-in_ok-put_link-in-Some-Link-clause-adds : goal.returns-in_ok-put_link-in-Some-Link-clause-adds
unfolding net_of
returns-in_ok-put_link-in-Some-Link-clause-adds c =
    let o = c.requires in
    said_link _ _ _ _ o.nodes o.protocols _ _ (rw c.in-Some-Link.field-0-is at c.in-Some-Link.ensures) ∙ c.in_ok-put_link-in-Some-Link.ensures.fault _ _

pub returns-in_ok-put_fun-in-Some-Fun-clause-adds : goal.returns-in_ok-put_fun-in-Some-Fun-clause-adds
unfolding net_of
returns-in_ok-put_fun-in-Some-Fun-clause-adds c =
    let o = c.requires in
    said_fun _ _ _ _ o.nodes o.protocols _ _ (rw c.in-Some-Fun.field-0-is at c.in-Some-Fun.ensures) ∙ c.in_ok-put_fun-in-Some-Fun.ensures.fault _

pub returns-in_err-put_link-in-Some-Link-clause-adds : goal.returns-in_err-put_link-in-Some-Link-clause-adds
unfolding net_of
returns-in_err-put_link-in-Some-Link-clause-adds c =
    let o = c.requires in
    let p = err_from_is_err_and c.from_residual.result c.from_residual.ensures.1 in
    rw (p.1, p.2) (said_link _ _ _ _ o.nodes o.protocols _ _ (rw c.in-Some-Link.field-0-is at c.in-Some-Link.ensures) ∙ c.in_err-put_link-in-Some-Link.ensures.fault _ _)

pub returns-in_err-put_fun-in-Some-Fun-clause-adds : goal.returns-in_err-put_fun-in-Some-Fun-clause-adds
unfolding net_of
returns-in_err-put_fun-in-Some-Fun-clause-adds c =
    let o = c.requires in
    let p = err_from_is_err_and c.from_residual-in_err-put_fun-in-Some-Fun.result c.from_residual-in_err-put_fun-in-Some-Fun.ensures.1 in
    rw (p.1, p.2) (said_fun _ _ _ _ o.nodes o.protocols _ _ (rw c.in-Some-Fun.field-0-is at c.in-Some-Fun.ensures) ∙ c.in_err-put_fun-in-Some-Fun.ensures.fault _)

pub returns-in-Some-Net-clause-adds : goal.returns-in-Some-Net-clause-adds
returns-in-Some-Net-clause-adds c = said_net _ _ _ _ (rw c.in-Some-Net.field-0-is at c.in-Some-Net.ensures)

pub returns-in-None-clause-adds : goal.returns-in-None-clause-adds
returns-in-None-clause-adds c = said_none _ _ c.in-None.ensures
