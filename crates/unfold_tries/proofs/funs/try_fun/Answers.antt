use mathlib.Core.Path.{refl, sym, ◌∙◌}
use Rattle.unfold_tries.proofs.Serves.{usable, is_unwrap, no_unwrap, unwrap_top, sought_top, fun_other, fun_passed, fun_tried}
use Rattle.unfold_tries.proofs.funs.try_fun.Goals.{else-eq-via-then-eq+else-fun_y-at, else-eq-via-else-eq}
use Rattle.unfold_tries.proofs.funs.try_fun.Goals as goal

pub returns-then-not-serves : goal.returns-then-not-serves
returns-then-not-serves c = fun_other _ _ _ _ _ _ _ _ _ (rw c.sought_by-x.ensures at c.serves.ensures) c.if-not-serves.true

pub returns-then-fun_y-at : goal.returns-then-fun_y-at
returns-then-fun_y-at c = fun_passed _ _ _ _ _ _ _ _ _ (c.fun_y.ensures.0 ∙ unwrap_top _ _ _ (is_unwrap c.args.kind c.eq.ensures c.if-eq.true)) c.if-fun_y-at.true

pub try_links-requires : goal.try_links-requires
try_links-requires c = let p = c.requires in let a = c.args in (p.2, usable a.solved.now.net.now a.kind a.j _ a.solved.now.arranged p.0 c.use_of.ensures)

pub returns : goal.returns
returns c =
    let t = rw c.sought_by-x.ensures at c.serves.ensures in
    fun_tried _ _ _ _ _ _ _ _ _ _ _ c.requires.1 t c.if-not-serves.false refl
    (sought_top _ _ _ _ _ (sym t ∙ c.if-not-serves.false) (elim c.else-eq.branch [
      | else-eq-via-then-eq+else-fun_y-at w ↦ (λ e. sym w.fun_y.ensures.0 ∙ w.if-fun_y-at.false)
      | else-eq-via-else-eq w ↦ (λ e. absurd (no_unwrap c.args.kind c.eq.ensures w.if-eq.false e))
    ]))
    c.use_of.ensures
    c.try_links.ensures
