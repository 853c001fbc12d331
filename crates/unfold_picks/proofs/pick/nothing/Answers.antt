use Rattle.unfold_picks.proofs.pick.nothing.Goals as goal

pub returns : goal.returns
returns c = rw c.step_key.ensures
