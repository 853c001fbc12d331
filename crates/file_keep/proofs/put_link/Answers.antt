-- A link added as a row of four is the link inserted. Assumes nothing.
use mathlib.Core.Path.{sym, ◌∙◌}
use Rattle.file_keep.proofs.Records.{on_laid, past_none, added_order, added_past, link_wide, link_added}
use Rattle.file_keep.proofs.put_link.Goals as goal

pub returns-then-not-link_fits : goal.returns-then-not-link_fits
returns-then-not-link_fits c =
    let f = sym c.link_fits.ensures ∙ c.if-not-link_fits.true in
    record { fault = λ p fs. link_wide _ _ _ _ p fs f; kept = tt; past = past_none _ _ _ }

pub returns : goal.returns
returns c =
    let f = sym c.link_fits.ensures ∙ c.if-not-link_fits.false in
    let a = c.add.ensures in
    record {
      fault = λ p fs. link_added _ _ _ _ p fs _ _ f a;
      kept = on_laid _ _ (added_order _ _ _ _ _ _ _ a c.requires c.add.auto.room);
      past = added_past _ _ _ _ _ _ _ a;
    }
