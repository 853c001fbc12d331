-- Too long, or written. Assumes nothing.
use Rattle.std.proofs.Common.{arith}
use Rattle.trace.proofs.Answers.{known, too_long, written_out}
use Rattle.trace.proofs.trace.Goals as goal

pub trace_length-length-requires : goal.trace_length-length-requires
trace_length-length-requires c = known c.requires

pub returns-then-text-length : goal.returns-then-text-length
returns-then-text-length c = too_long c.trace_length-length.result _ c.args.text.now c.trace_length-length.ensures c.if-text-length.true

pub write_trace-requires : goal.write_trace-requires
write_trace-requires c = record { route = known c.requires; fits = omega (arith, c.trace_length-length.ensures, c.if-text-length.false) }

pub returns : goal.returns
returns c = written_out c.trace_length-length.result _ c.args.text.now c.trace_length-length.ensures _ c.write_trace.result c.if-text-length.false c.write_trace.ensures
