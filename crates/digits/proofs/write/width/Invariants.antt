-- The loop keeps: n has at least w digits. Assumes nothing.
use Prim.Native.Nat.{◌≤◌, ◌<◌, ◌-◌, ◌^◌}
use Rattle.digits.proofs.write.width.Given as goal

abbrev pub invariant-loop-w : goal.invariant-loop-w
invariant-loop-w l = 1 < l.w → 10 ^ (l.w - 1) ≤ l.n
