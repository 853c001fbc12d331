-- A field is cut off in each turn. Assumes nothing.
use Rattle.std.proofs.Common.{refl, arith, ◌∙◌, ap, ℕ, drop}
use Rattle.paper.specs.Text.{fields}
use Rattle.file_fields.proofs.Cutting.{there, nothing_behind}
use Rattle.file_fields.proofs.from_field.Goals as goal

pub loop-init : goal.loop-init
loop-init c = refl

pub returns-in_err-rest : goal.returns-in_err-rest
returns-in_err-rest c = rw c.from_residual.ensures (nothing_behind _ _ _ c.loop.invariant c.args.k c.in_err-rest.was (omega (arith, c.loop-test.true)))

pub loop-preserved : goal.loop-preserved
loop-preserved c = (there _ _ _ c.loop.invariant _ _ _ c.in_ok-rest.was c.cut.ensures).1

pub returns : goal.returns
returns c = c.loop.invariant ∙ ap (λ (n : ℕ). drop n (fields c.args.line.now)) (omega (arith, c.loop-test.false, c.loop.auto.counter-end))
