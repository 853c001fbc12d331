-- A function added as a row of five is the function inserted; its kind is kept as a code. Assumes nothing.
use mathlib.Core.Path.{sym, ◌∙◌}
use Rattle.file_keep.proofs.Records.{on_laid, past_none, added_order, added_past, fun_wide, fun_added, fun_coded}
use Rattle.file_keep.proofs.put_fun.Goals as goal

pub returns-then-not-fun_fits : goal.returns-then-not-fun_fits
returns-then-not-fun_fits c =
    let f = sym c.fun_fits.ensures ∙ c.if-not-fun_fits.true in
    record { fault = λ ls. fun_wide _ _ _ _ _ ls f; kept = tt; coded = tt; past = past_none _ _ _ }

pub returns : goal.returns
returns c =
    let f = sym c.fun_fits.ensures ∙ c.if-not-fun_fits.false in
    let a = rw c.code.ensures at c.add.ensures in
    let pre = c.requires in
    record {
      fault = λ ls. fun_added _ _ _ _ _ pre.1 a _ _ ls f;
      kept = on_laid _ _ (added_order _ _ _ _ _ _ _ a pre.0 c.add.auto.room);
      coded = on_laid _ _ (fun_coded _ _ _ _ _ pre.1 a);
      past = added_past _ _ _ _ _ _ _ a;
    }
