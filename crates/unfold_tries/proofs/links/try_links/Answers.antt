use Rattle.unfold_tries.proofs.Better.{walk_on, walk_end, own_here, further}
use Rattle.unfold_tries.proofs.Crossings.{leaves_from, link_elsewhere}
use Rattle.unfold_tries.proofs.links.try_links.Goals as goal

pub loop-i-init : goal.loop-i-init
loop-i-init c = walk_on (link_elsewhere _ _ _ _ _ _) (rw (← c.into_iter-i-iterator.ensures.into_iter_gives) at c.links_of-i-items.ensures.stretch)

pub try_link-found-requires : goal.try_link-found-requires
try_link-found-requires c = let h = own_here c.loop-i.invariant c.in-Some.ensures.steps in (h.0, leaves_from _ _ _ h.1, c.requires.0, c.requires.1)

pub loop-i-preserved : goal.loop-i-preserved
loop-i-preserved c = further c.loop-i.invariant c.in-Some.ensures.steps c.try_link-found.ensures

pub returns : goal.returns
returns c = walk_end (link_elsewhere _ _ _ _ _ _) c.loop-i.invariant c.in-None.ensures.steps.1.0
