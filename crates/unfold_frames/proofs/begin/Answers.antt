use Rattle.unfold_frames.proofs.Stores.{blank_laid}
use Rattle.unfold_frames.proofs.begin.Goals as goal

pub returns : goal.returns
returns c = blank_laid _ _ _ _ _ _ _ _ _ c.head.ensures c.clear.ensures
