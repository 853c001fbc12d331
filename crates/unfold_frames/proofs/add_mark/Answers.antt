use Rattle.unfold_frames.specs.Frames.{with_mark}
use Rattle.unfold_frames.proofs.add_mark.Goals as goal

pub returns : goal.returns
unfolding with_mark
returns c = rw c.power.ensures
