use Rattle.unfold_frames.proofs.Stores.{power_fits}
use Rattle.unfold_frames.proofs.power.Goals as goal

pub returns : goal.returns
returns c = power_fits c.args.b c.requires
