-- The two records are found, or one is missing. Assumes nothing.
use Rattle.trace_replay.proofs.Finding.{leads, no_link, no_fun}
use Rattle.trace_replay.proofs.hops.hop.Goals as goal

pub returns-in_err-i : goal.returns-in_err-i
returns-in_err-i c = rw c.from_residual.ensures (no_link _ c.link_of.ensures.arranged _ c.args.key (rw c.from.ensures at c.in_err-i.ensures.first))

pub returns-in_err-j : goal.returns-in_err-j
returns-in_err-j c = rw c.from_residual-in_err-j.ensures (no_fun _ c.link_of.ensures.arranged _ c.args.key (rw (c.from-2.ensures, c.from-3.ensures, c.from-4.ensures) at c.in_err-j.ensures))

pub returns : goal.returns
returns c =
    rw (c.link_to.ensures.0, c.fun_weight.ensures.0, c.link_weight.ensures.0)
    (leads _ c.link_of.ensures.arranged _ c.args.key _ _ (rw c.from.ensures at c.in_ok-i.ensures.first) (rw (c.from-2.ensures, c.from-3.ensures, c.from-4.ensures) at c.in_ok-j.ensures))
