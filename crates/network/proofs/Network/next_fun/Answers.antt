use native.Mathlib.Omega.{arith}
use Rattle.network.proofs.Walks.{fun_end, fun_start_lem, fun_below, fun_found, fun_on, fun_none}
use Rattle.network.proofs.Network.next_fun.Goals as goal

pub loop-k-init : goal.loop-k-init
loop-k-init c =
    let s = c.stretch-own.ensures in
    fun_start_lem _ s.arranged _ _ c.requires.1 _ _ _ _ s.from (omega (arith, c.max-k.ensures))

pub is_for-requires : goal.is_for-requires
is_for-requires c =
    let s = c.stretch-own.ensures in
    fun_below _ s.arranged _ _ c.requires.1 _ _ _ _ (fun_end c.args.self.now c.args.v _ s.to) c.loop-k.invariant c.loop-k-test.true

pub returns-then-is_for : goal.returns-then-is_for
returns-then-is_for c =
    let s = c.stretch-own.ensures in
    fun_found _ s.arranged _ _ c.requires.1 _ _ _ _ (fun_end c.args.self.now c.args.v _ s.to) c.loop-k.invariant _ c.loop-k-test.true c.is_for.ensures c.if-is_for.true

pub loop-k-preserved : goal.loop-k-preserved
loop-k-preserved c =
    let s = c.stretch-own.ensures in
    fun_on _ s.arranged _ _ c.requires.1 _ _ _ _ (fun_end c.args.self.now c.args.v _ s.to) c.loop-k.invariant _ c.loop-k-test.true c.is_for.ensures c.if-is_for.false

pub returns : goal.returns
returns c =
    let s = c.stretch-own.ensures in
    rw c.funs.ensures.0 (fun_none _ s.arranged _ _ c.requires.1 _ _ _ _ (fun_end c.args.self.now c.args.v _ s.to) c.loop-k.invariant c.requires.0 (λ h. omega (arith, c.loop-k-test.false)))
