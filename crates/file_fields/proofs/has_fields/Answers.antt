-- The k-th field is the last one. Assumes nothing.
use Rattle.std.proofs.Common.{◌≡◌, ap, ◌∙◌, ◌+◌, ◌-◌, eqb, length, arith}
use Rattle.paper.specs.Text.{fields}
use Rattle.file_fields.proofs.Cutting.{last_there, fewer, not_none}
use Rattle.file_fields.proofs.has_fields.Goals as goal

pub returns-then-k-eq0 : goal.returns-then-k-eq0
returns-then-k-eq0 c = rw c.if-k-eq0.true (not_none c.args.line.now)

pub returns-in-Some : goal.returns-in-Some
returns-in-Some c =
    let q : c.args.k - 1 + 1 ≡ c.args.k = omega (arith, c.if-k-eq0.false) in
    last_there _ _ _ c.from_field.ensures _ _ _ _ c.in-Some.is c.cut.ensures c.is_none.ensures ∙ ap (eqb (length (fields c.args.line.now))) q

pub returns-in-None : goal.returns-in-None
returns-in-None c =
    let q : c.args.k - 1 + 1 ≡ c.args.k = omega (arith, c.if-k-eq0.false) in
    fewer _ _ _ c.from_field.ensures c.in-None.is ∙ ap (eqb (length (fields c.args.line.now))) q
