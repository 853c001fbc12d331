use mathlib.Core.Path.{ap, ◌∙◌}
use native.Mathlib.Omega.{arith}
use Rattle.std.proofs.Common.{List, ℕ, Bor}
use Rattle.std.proofs.lemmas.Result.{err_from_is_err_and}
use Rattle.file_read.proofs.Turns.{stands_first, header_off, stands_off, stands_end, kept_at, bad_at}
use Rattle.file_read.proofs.read_lines.Goals as goal

pub returns-in_err-size-clause-judged : goal.returns-in_err-size-clause-judged
returns-in_err-size-clause-judged c =
    let p = err_from_is_err_and c.from_residual.result c.from_residual.ensures.1 in
    let n = ap (λ (b : Bor (List ℕ)). b.now) c.new-cursor.ensures.0 in
    rw (p.1, p.2, ← n) (header_off _ _ _ _ _ _ (c.take_header.ensures.opens c.args.links.now c.args.funs.now) (bad_at _ _ _ c.in_err-size.ensures))

pub loop-cursor-init : goal.loop-cursor-init
loop-cursor-init c =
    let e = kept_at _ _ _ c.in_ok-size.ensures in
    let o = rw e at c.take_header.ensures.onto in
    let n = c.new-cursor.ensures in
    let f = ap (λ (b : Bor (List ℕ)). b.now) n.0 in
    let p = c.requires in (
      ap (λ (b : Bor (List ℕ)). b.now) (o.same ∙ n.0),
      rw f at (stands_first _ _ _ _ _ p.1 p.2 (rw e at c.take_header.ensures.bare) (omega (arith, o.further)) o.within (rw e at (c.take_header.ensures.opens c.args.links.now c.args.funs.now))),
    )

pub returns-in_err-size-2-clause-judged : goal.returns-in_err-size-2-clause-judged
returns-in_err-size-2-clause-judged c =
    let p = err_from_is_err_and c.from_residual-in_err-size-2.result c.from_residual-in_err-size-2.ensures.1 in
    let i = c.loop-cursor.invariant in
    rw (p.1, p.2) (stands_off _ _ _ _ _ _ _ _ i.1 _ _ _ _ _ (rw i.0 at (c.take_record.ensures.adds c.loop-cursor.line)) (bad_at _ _ _ c.in_err-size-2.ensures))

pub returns-clause-judged : goal.returns-clause-judged
returns-clause-judged c = stands_end _ _ _ _ _ _ _ _ c.loop-cursor.invariant.1 (omega (arith, c.loop-cursor-test.false))
