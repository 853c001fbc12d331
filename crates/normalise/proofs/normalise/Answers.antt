use Rattle.normalise.proofs.Bounds.{in_room}
use Rattle.normalise.proofs.normalise.Goals as goal

pub slice_bounds-write_all-end : goal.slice_bounds-write_all-end
slice_bounds-write_all-end g c = in_room _ _ _ _ _ _ _ _ c.normal_file-outcome.ensures
