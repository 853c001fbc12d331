use mathlib.Core.Path.{refl, sym, ◌∙◌}
use native.Mathlib.Omega.{arith}
use Rattle.paper.proofs.Keys.{same_at, differ_at, ended}
use Rattle.paper.proofs.key.key_before.Goals as goal

pub loop-i-init : goal.loop-i-init
loop-i-init c = refl

pub returns-then-a-i : goal.returns-then-a-i
returns-then-a-i c =
    let l = c.loop-i in
    let a = c.args in
    sym (l.invariant ∙ differ_at a.a a.b l.i (omega arith) (omega arith) c.if-a-i.true)

pub loop-i-preserved : goal.loop-i-preserved
loop-i-preserved c =
    let l = c.loop-i in
    let a = c.args in
    l.invariant ∙ same_at a.a a.b l.i (omega arith) (omega arith) c.if-a-i.false

pub returns : goal.returns
returns c =
    let l = c.loop-i in
    let a = c.args in
    sym (l.invariant ∙ ended a.a a.b l.i (omega arith))
