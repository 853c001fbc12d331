use Prim.Native.Nat.{◌+◌}
use native.Mathlib.Omega.{arith}
use Rattle.laws.proofs.Laid.{part_laid}
use Rattle.unfold_frames.proofs.head.Goals as goal

pub returns : goal.returns
returns c =
    let a = c.args in
    rw c.copy_from_slice.ensures.after (part_laid a.choice.now _ a.o (a.o + 5) (omega arith) c.requires (omega arith))
