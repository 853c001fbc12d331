-- The word, two fields and the LF, one piece after another. Assumes nothing.
use Rattle.paper.specs.Text.{path_word}
use Rattle.trace_stepline.proofs.Pieces.{begin, go_on, ended}
use Rattle.trace.proofs.Replays.{path_pieces, path_joined}
use Rattle.trace.proofs.write.put_path.Goals as goal

pub returns : goal.returns
unfolding path_word
returns c = let a = c.args in rw (path_joined a.weight a.count) (ended (go_on (go_on (go_on (go_on (begin a.w.now (path_pieces a.weight a.count)) c.word.ensures) c.field.ensures) c.field-2.ensures) c.byte.ensures))
