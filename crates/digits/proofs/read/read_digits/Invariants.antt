-- The loop keeps: what is told of all digits is what is told of those that are left, read on from the value so far. Assumes nothing.
use mathlib.Core.Path.{◌≡◌}
use Prim.Native.Nat.{◌≤◌}
use lib.ListN.{drop}
use Rattle.digits.specs.Read.{told_from}
use Rattle.digits.proofs.read.read_digits.Given as goal

abbrev pub invariant-loop-byte : goal.invariant-loop-byte
invariant-loop-byte l = (l.value ≤ 1000000001) × (told_from 0 l.spelled ≡ told_from l.value (drop l.byte-index l.spelled))
