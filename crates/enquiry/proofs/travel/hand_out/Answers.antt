use Rattle.enquiry.proofs.Handing.{unfolds, traceable, ends, is_cleared}
use Rattle.enquiry.proofs.travel.hand_out.Goals as goal

pub unfold-requires : goal.unfold-requires
unfold-requires c = let p = c.requires in unfolds _ _ _ _ _ _ _ _ _ p.0 p.1

pub trace-length-requires : goal.trace-length-requires
trace-length-requires c = let p = c.requires in traceable _ _ _ _ _ _ _ _ _ _ _ p.1 c.«unfold».ensures p.0

pub returns-clause-ends_in : goal.returns-clause-ends_in
returns-clause-ends_in c = ends _ _ _ _ _ _ _ _ _ _ _ c.requires.1 c.«unfold».ensures _ _ _ c.trace-length.ensures

pub returns-clause-choice_after : goal.returns-clause-choice_after
returns-clause-choice_after c = is_cleared _ _ _ c.«unfold».ensures.choices
