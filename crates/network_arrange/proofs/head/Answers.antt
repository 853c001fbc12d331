use mathlib.Core.Path.{refl}
use native.Mathlib.Omega.{arith}
use Rattle.laws.proofs.Laid.{laid_part}
use Rattle.network_arrange.proofs.head.Goals as goal

pub returns : goal.returns
returns c = laid_part _ _ _ 0 4 refl (omega arith) c.copy_from_slice.ensures.after
