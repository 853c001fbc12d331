-- Two fields and the LF, one piece after another. Assumes nothing.
use Rattle.trace_stack.specs.Items.{below}
use Rattle.trace_replay.specs.Packet.{whereabouts}
use Rattle.trace_stepline.specs.Texts.{end_text}
use Rattle.trace_stepline.proofs.Pieces.{begin, go_on, ended, end_pieces}
use Rattle.trace_stepline.proofs.put_end.Goals as goal

pub returns : goal.returns
unfolding end_text whereabouts
returns c = let a = c.args in ended (go_on (go_on (go_on (begin a.w.now (end_pieces a.p.node (below a.cells.now a.p.height))) c.field.ensures) c.put_stack.ensures) c.byte.ensures)
