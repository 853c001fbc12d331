-- Each turn takes a step and writes its line. Assumes nothing.
use Rattle.std.proofs.Common.{rules, arith, ◌≡◌, ◌<◌, length, slice_index_or}
use Rattle.trace_stack.specs.Items.{highest}
use Rattle.trace.proofs.Replays.{set_out, turn_top, turn_here, turn_ready, turn_shown, turn_on, finish}
use Rattle.trace.proofs.write.put_steps.Goals as goal

pub loop-i-init : goal.loop-i-init
loop-i-init c = set_out c.requires.route c.args.w.now _ _ c.holding-stack.ensures c.begin-packet.ensures

pub overflow_cast-y : goal.overflow_cast-y
overflow_cast-y c =
    let top : slice_index_or c.key-key.result 3 0 < 256 = rw c.key-key.ensures (turn_top c.requires.route c.loop-i.i c.loop-i-test.true c.loop-i.invariant) in
    omega arith

pub step_in-requires : goal.step_in-requires
step_in-requires c = rw (c.from.ensures, c.key-key.ensures) (turn_ready c.requires.route c.loop-i.i c.loop-i-test.true c.loop-i.invariant)

pub stepped-packet-requires : goal.stepped-packet-requires
stepped-packet-requires c = turn_here c.requires.route c.loop-i.i c.loop-i-test.true c.loop-i.invariant

pub put_step-requires : goal.put_step-requires
put_step-requires c =
    let done = rw (c.from.ensures, c.key-key.ensures) at c.step_in.ensures in
    let full : length c.step_in.new.self.cells ≡ highest = search rules in
    turn_shown c.requires.route _ c.loop-i-test.true c.loop-i.invariant c.step_in.new.self done _ c.key-key.ensures _ c.stepped-packet.ensures full c.requires.room

pub loop-i-preserved : goal.loop-i-preserved
loop-i-preserved c =
    let done = rw (c.from.ensures, c.key-key.ensures) at c.step_in.ensures in
    turn_on c.requires.route _ c.loop-i-test.true c.loop-i.invariant c.step_in.new.self done _ c.key-key.ensures _ c.stepped-packet.ensures c.put_step.ensures

pub returns : goal.returns
returns c = finish c.requires.route _ c.loop-i-test.false c.loop-i.invariant
