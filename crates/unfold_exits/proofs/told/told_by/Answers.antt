use Rattle.unfold_exits.proofs.Telling.{told_heavy, told_long, told_light}
use native.Mathlib.Omega.{arith}
use mathlib.Core.Path.{◌∙◌}
use Rattle.unfold_exits.proofs.told.told_by.Goals as goal
use Rattle.unfold_exits.proofs.told.told_by.Goals.{else-e-le-HEAVIEST-via-then-e-le-HEAVIEST+else-e-le-LONGEST, else-e-le-HEAVIEST-via-else-e-le-HEAVIEST}

pub returns-then-e-le-LONGEST : goal.returns-then-e-le-LONGEST
returns-then-e-le-LONGEST c = (c.step_cost.ensures.0 ∙ told_light _ _ (omega arith) (omega arith), omega arith)

pub returns-else-e-le-HEAVIEST : goal.returns-else-e-le-HEAVIEST
returns-else-e-le-HEAVIEST c =
    elim c.else-e-le-HEAVIEST.branch [
      | else-e-le-HEAVIEST-via-then-e-le-HEAVIEST+else-e-le-LONGEST w ↦ (told_long _ _ (omega arith) (omega arith), omega arith)
      | else-e-le-HEAVIEST-via-else-e-le-HEAVIEST w ↦ (told_heavy _ _ (omega arith), omega arith)
    ]
