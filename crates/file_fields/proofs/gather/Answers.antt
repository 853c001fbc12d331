-- A field is cut off and read in each turn. Assumes nothing.
use Rattle.std.proofs.Common.{◌≡◌, ◌∙◌, refl, ◌+◌, arith}
use Rattle.file_fields.proofs.Cutting.{there, told_there, none_told}
use Rattle.file_fields.proofs.Gathering.{gathered_start, gathered_more, gathered_none, gathered_all}
use Rattle.file_fields.proofs.gather.Goals as goal

pub loop-i-init : goal.loop-i-init
loop-i-init c = (gathered_start _ _ _ _ refl, let q : c.args.k + 0 ≡ c.args.k = omega arith in rw q c.from_field-rest.ensures)

pub returns-in_err-rest : goal.returns-in_err-rest
returns-in_err-rest c =
    let v = c.loop-i.invariant in
    rw c.from_residual.ensures (gathered_none _ _ _ _ _ v.0 c.loop-i-test.true (none_told _ _ _ v.1 c.in_err-rest.was))

pub returns-in_err-out : goal.returns-in_err-out
returns-in_err-out c =
    let v = c.loop-i.invariant in
    rw c.from_residual-in_err-out.ensures
    (gathered_none _ _ _ _ _ v.0 c.loop-i-test.true (c.in_err-out.ensures ∙ told_there _ _ _ v.1 _ _ _ c.in_ok-rest.was c.cut.ensures))

pub loop-i-preserved : goal.loop-i-preserved
loop-i-preserved c =
    let v = c.loop-i.invariant in
    let q : c.args.k + (c.loop-i.i + 1) ≡ c.args.k + c.loop-i.i + 1 = omega arith in (
      gathered_more _ _ _ _ _ _ v.0 c.loop-i-test.true (c.in_ok-out.ensures ∙ told_there _ _ _ v.1 _ _ _ c.in_ok-rest.was c.cut.ensures),
      rw q (there _ _ _ v.1 _ _ _ c.in_ok-rest.was c.cut.ensures).1,
    )

pub returns : goal.returns
returns c = gathered_all _ _ _ _ _ c.loop-i.invariant.0 (omega (arith, c.loop-i-test.false, c.loop-i.auto.i-end))
