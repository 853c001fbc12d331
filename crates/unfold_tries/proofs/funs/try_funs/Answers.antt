use Rattle.unfold_tries.proofs.Better.{walk_on, walk_end, own_here, further}
use Rattle.unfold_tries.proofs.Serves.{stands_at, fun_elsewhere}
use Rattle.unfold_tries.proofs.funs.try_funs.Goals as goal

pub loop-j-init : goal.loop-j-init
loop-j-init c = walk_on (fun_elsewhere _ _ _ _ _ _ _) (rw (← c.into_iter-j-iterator.ensures.into_iter_gives) at c.funs_of-j-items.ensures.stretch)

pub try_fun-found-requires : goal.try_fun-found-requires
try_fun-found-requires c = let h = own_here c.loop-j.invariant c.in-Some.ensures.steps in (h.0, stands_at _ _ _ h.1, c.requires)

pub loop-j-preserved : goal.loop-j-preserved
loop-j-preserved c = further c.loop-j.invariant c.in-Some.ensures.steps c.try_fun-found.ensures

pub returns : goal.returns
returns c = walk_end (fun_elsewhere _ _ _ _ _ _ _) c.loop-j.invariant c.in-None.ensures.steps.1.0
