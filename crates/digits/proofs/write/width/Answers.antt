-- A number of 32 bits has at most ten digits. Assumes nothing.
use borrow.Author.Rules.{rules}
use mathlib.Core.Path.{◌≡◌}
use native.Mathlib.Omega.{arith}
use Rattle.digits.proofs.Digits.{digit_count}
use Rattle.digits.proofs.write.width.Goals as goal

pub returns-clause-value : goal.returns-clause-value
returns-clause-value c =
    let l = c.loop-w in
    let e : l.w ≡ 10 = omega arith in
    digit_count _ 10 (search rules) (search rules) (omega (arith, c.ranges.n)) (rw e at l.invariant)
