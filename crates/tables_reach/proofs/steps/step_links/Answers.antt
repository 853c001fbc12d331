use borrow.Author.Rules.{rules}
use Rattle.tables_reach.proofs.Crossings.{crossed, not_crossed}
use Rattle.tables_reach.proofs.Scans.{walk_on, walk_end, own_here, further}
use Rattle.tables_reach.proofs.steps.step_links.Goals as goal

pub loop-i-init : goal.loop-i-init
loop-i-init c = (search rules, walk_on (λ k s e. not_crossed _ _ _ _ _ e) _ (rw (← c.into_iter-i-iterator.ensures.into_iter_gives) at c.links_of-i-items.ensures.stretch))

pub step-requires : goal.step-requires
step-requires c = (search rules, (own_here c.loop-i.invariant.1 c.in-Some.ensures.steps).0, search rules)

pub loop-i-preserved : goal.loop-i-preserved
loop-i-preserved c =
    let o = c.loop-i.invariant.1 in
    let y = c.in-Some.ensures.steps in
    (search rules, further o y _ (crossed _ _ _ _ _ _ (own_here o y).1 c.step.ensures))

pub returns : goal.returns
returns c = walk_end (λ k s e. not_crossed _ _ _ _ _ e) c.loop-i.invariant.1 c.in-None.ensures.steps.1.0
