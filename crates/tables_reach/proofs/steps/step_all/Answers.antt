use borrow.Author.Rules.{rules}
use Rattle.tables_reach.proofs.Crossings.{served, passed_by, not_standing}
use Rattle.tables_reach.proofs.Scans.{walk_on, walk_end, own_here, further}
use Rattle.tables_sweeps.specs.Row.{steps}
use Rattle.tables_reach.proofs.steps.step_all.Goals as goal

pub loop-j-init : goal.loop-j-init
loop-j-init c = (search rules, walk_on (λ k s e. not_standing _ _ _ _ _ _ e) _ (rw (← c.into_iter-j-iterator.ensures.into_iter_gives) at c.funs_of-j-items.ensures.stretch))

pub serves-requires : goal.serves-requires
serves-requires c = (own_here c.loop-j.invariant.1 c.in-Some.ensures.steps).0

pub step_links-requires : goal.step_links-requires
step_links-requires c = (search rules, (own_here c.loop-j.invariant.1 c.in-Some.ensures.steps).0, search rules)

pub loop-j-preserved-then-serves : goal.loop-j-preserved-then-serves
loop-j-preserved-then-serves c =
    let o = c.loop-j.invariant.1 in
    let y = c.in-Some.ensures.steps in
    (search rules, further o y _ (served _ _ _ _ _ _ _ (own_here o y).1 c.serves.ensures _ c.if-serves.true c.step_links.ensures))

pub loop-j-preserved : goal.loop-j-preserved
loop-j-preserved c =
    let o = c.loop-j.invariant.1 in
    let y = c.in-Some.ensures.steps in
    (search rules, further o y _ (passed_by _ _ _ _ _ _ _ (own_here o y).1 c.serves.ensures c.if-serves.false))

pub returns : goal.returns
unfolding steps
returns c = walk_end (λ k s e. not_standing _ _ _ _ _ _ e) c.loop-j.invariant.1 c.in-None.ensures.steps.1.0
