use mathlib.Core.Path.{refl}
use Rattle.unfold_picks.proofs.Opened.{write_marking, written}
use Rattle.unfold_picks.proofs.opens.write_record.Goals as goal

pub mark_outs-requires : goal.mark_outs-requires
mark_outs-requires c = write_marking c.requires _ _ c.places-size.ensures.0 c.row_of.ensures.1 c.begin.auto.choice

pub returns : goal.returns
returns c = written c.requires _ _ _ _ _ _ c.places-size.ensures.0 c.words_for.ensures.0 c.number_of-number.ensures.0 refl c.row_of.ensures.0 c.step_cost.ensures.0 c.begin.ensures c.mark_outs.ensures
