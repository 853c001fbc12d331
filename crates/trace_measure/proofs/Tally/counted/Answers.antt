-- One step counted in. Assumes nothing.
use Rattle.trace_replay.specs.Keys.{key_of}
use Rattle.trace_measure.proofs.Tallies.{countable_here, countable_lost, countable_most}
use Rattle.trace_measure.proofs.Tally.counted.Goals as goal

pub stepped-packet-requires : goal.stepped-packet-requires
stepped-packet-requires c = countable_here _ c.requires.0 (key_of c.args.key) c.args.self c.requires.1

pub dots_after-dots-requires : goal.dots_after-dots-requires
dots_after-dots-requires c = countable_lost _ c.requires.0 (key_of c.args.key) c.args.self c.requires.1

pub line_size-requires : goal.line_size-requires
line_size-requires c = countable_most _ c.requires.0 (key_of c.args.key) c.args.self c.stepped-packet.result c.dots_after-dots.result c.requires.1 c.stepped-packet.ensures c.dots_after-dots.ensures
