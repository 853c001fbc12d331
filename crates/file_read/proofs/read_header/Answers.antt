-- What is said of the first line decides as the line does. Assumes nothing.
use mathlib.Core.Path.{sym, ap, ◌∙◌, refl}
use Rattle.paper.specs.File.{good}
use Rattle.laws.proofs.Shapes.{net_range}
use Rattle.file_read.proofs.Told.{header_net, header_wide, header_link, header_fun, header_none}
use Rattle.file_read.proofs.Turns.{bare_net}
use Rattle.file_read.proofs.read_header.Goals as goal

pub returns-else-not-net_fits-clause-opens : goal.returns-else-not-net_fits-clause-opens
returns-else-not-net_fits-clause-opens c = λ ls fs.
    header_net _ _ _ (rw c.in-Some-Net.field-0-is at c.in-Some-Net.ensures) (sym c.net_fits.ensures ∙ c.if-not-net_fits.false) ∙ ap good (bare_net _ _ ls fs)

pub returns-else-not-net_fits-clause-bare : goal.returns-else-not-net_fits-clause-bare
returns-else-not-net_fits-clause-bare c =
    let r = net_range _ _ (sym c.net_fits.ensures ∙ c.if-not-net_fits.false) in
    record { nodes = r.1; protocols = r.3; no_links = refl; no_funs = refl }

pub returns-then-not-net_fits-clause-opens : goal.returns-then-not-net_fits-clause-opens
returns-then-not-net_fits-clause-opens c = λ ls fs. header_wide _ _ _ (rw c.in-Some-Net.field-0-is at c.in-Some-Net.ensures) (sym c.net_fits.ensures ∙ c.if-not-net_fits.true)

pub returns-in-Some-Link-clause-opens : goal.returns-in-Some-Link-clause-opens
returns-in-Some-Link-clause-opens c = λ ls fs. header_link _ _ (rw c.in-Some-Link.field-0-is at c.in-Some-Link.ensures)

pub returns-in-Some-Fun-clause-opens : goal.returns-in-Some-Fun-clause-opens
returns-in-Some-Fun-clause-opens c = λ ls fs. header_fun _ _ (rw c.in-Some-Fun.field-0-is at c.in-Some-Fun.ensures)

pub returns-in-None-clause-opens : goal.returns-in-None-clause-opens
returns-in-None-clause-opens c = λ ls fs. header_none _ c.in-None.ensures
