-- Where the level has gone asks what a pick, a store and a tunnel need; what they leave is where it has gone next. Assumes nothing.
use Rattle.std.proofs.Common.{arith}
use native.Mathlib.Numerals.{add-one}
use Rattle.paper.specs.Net.{conv, wrap, unwrap}
use Rattle.unfold.proofs.Writes.{taken_as, taken_by, coded}
use Rattle.unfold.proofs.Contract.{went_none, went_conv, went_then, went_asks, level_closes, level_ends, picked_falls, tunnel_opens, tunnel_calls, tunnel_done}
use Rattle.unfold.proofs.levels.+level_tunnel.Goals as goal

pub level-loop-here-init : goal.level-loop-here-init
level-loop-here-init t c = went_none c.args.solved.now.arranged c.requires

pub level-pick-s-requires : goal.level-pick-s-requires
level-pick-s-requires t c = let l = c.loop-here in (c.loop-here-test.true, (went_asks c.args.solved.now.arranged c.requires l.invariant l.auto.choice l.auto.steps).stands)

pub level-loop-here-smaller-in-Conv : goal.level-loop-here-smaller-in-Conv
level-loop-here-smaller-in-Conv t c = omega (arith, picked_falls c.args.solved.now.arranged c.requires c.pick-s.ensures.picked)

pub level-loop-here-preserved-in-Conv : goal.level-loop-here-preserved-in-Conv
level-loop-here-preserved-in-Conv t c =
    let l = c.loop-here in
    let o = c.args.solved.now.arranged in
    went_then o c.requires l.invariant (went_conv o (went_asks o c.requires l.invariant l.auto.choice l.auto.steps) (taken_by c.pick-s.ensures conv c.in-Conv.ensures) (rw c.from-in-Conv.ensures at c.put.ensures))

pub level-tunnel-here-requires : goal.level-tunnel-here-requires
level-tunnel-here-requires t c =
    let l = c.loop-here in
    let k = c.pick-s in
    (omega (arith, c.decreases, l.invariant.moved.leads.counts), (went_asks c.args.solved.now.arranged c.requires l.invariant l.auto.choice l.auto.steps, (coded k.ensures wrap c.in-Wrap.ensures, k.ensures)))

pub level-loop-here-preserved : goal.level-loop-here-preserved
level-loop-here-preserved t c = went_then c.args.solved.now.arranged c.requires c.loop-here.invariant c.tunnel-here.ensures.went

pub level-returns-in-Unwrap : goal.level-returns-in-Unwrap
level-returns-in-Unwrap t c =
    let a = c.args.course in
    level_closes c.args.solved.now.arranged a.end a.total a.level c.requires c.loop-here.invariant (taken_by c.pick-s.ensures unwrap c.in-Unwrap.ensures) (rw c.from-in-Unwrap.ensures at c.put-in-Unwrap.ensures)

pub level-returns : goal.level-returns
level-returns t c =
    let a = c.args.course in
    level_ends c.args.solved.now.arranged a.end a.total a.level c.requires c.loop-here.invariant (omega (arith, c.loop-here-test.false))

pub tunnel-put-requires : goal.tunnel-put-requires
tunnel-put-requires t c =
    let p = c.requires in
    let y = taken_as p.is_wrap.1 wrap p.is_wrap.0 in
    omega (arith, p.asks.steps, p.asks.fits, c.from.ensures, picked_falls c.args.solved.now.arranged p.asks y.picked)

pub tunnel-open-requires : goal.tunnel-open-requires
tunnel-open-requires t c =
    let p = c.requires in
    tunnel_opens c.args.solved.now.arranged p.asks (taken_as p.is_wrap.1 wrap p.is_wrap.0)

pub tunnel-level-requires : goal.tunnel-level-requires
tunnel-level-requires t c =
    let p = c.requires in
    let o = c.args.solved.now.arranged in
    let y = taken_as p.is_wrap.1 wrap p.is_wrap.0 in
    let w = c.«open» in (
      omega (arith, c.decreases, picked_falls o p.asks y.picked),
      rw (add-one c.args.course.level) (tunnel_calls o p.asks y w.ensures.0 w.ensures.1 w.auto.choice c.put.auto.steps),
    )

pub tunnel-returns : goal.tunnel-returns
tunnel-returns t c =
    let p = c.requires in
    let y = taken_as p.is_wrap.1 wrap p.is_wrap.0 in
    let w = c.«open» in
    tunnel_done c.args.solved.now.arranged p.asks y w.ensures.0 w.ensures.1 (rw c.from.ensures at c.put.ensures) (rw (add-one c.args.course.level) at c.level.ensures)
