use Prim.Native.Nat.{◌+◌, ◌*◌}
use native.Mathlib.Omega.{arith}
use Rattle.laws.proofs.Laid.{part_laid}
use Rattle.unfold.proofs.levels.put.Goals as goal

pub returns : goal.returns
returns c =
    let a = c.args in
    rw c.copy_from_slice.ensures.after (part_laid a.steps.now a.key (4 * a.done) (4 * a.done + 4) (omega arith) c.requires (omega arith))
