use Rattle.unfold_exits.proofs.finish.over_link.Goals as goal

pub returns : goal.returns
returns c = rw (← c.places-size.ensures.0, ← c.link_to.ensures.0, ← c.number_of.ensures.0, ← c.row_of-row.ensures.0, ← c.link_weight.ensures.0, ← c.step_cost.ensures.0, ← c.finish.ensures.0)
