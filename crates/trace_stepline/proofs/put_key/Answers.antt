-- The word and four fields, one piece after another. Assumes nothing.
use Rattle.paper.specs.Text.{step_word}
use Rattle.trace_replay.specs.Keys.{key_of}
use Rattle.trace_stepline.specs.Texts.{key_text}
use Rattle.trace_stepline.proofs.Pieces.{begin, go_on, ended, key_pieces}
use Rattle.trace_stepline.proofs.put_key.Goals as goal

pub returns : goal.returns
unfolding key_text key_of step_word
returns c = ended (go_on (go_on (go_on (go_on (go_on (begin c.args.w.now (key_pieces c.args.key)) c.word.ensures) (rw c.from.ensures at c.field.ensures)) (rw c.from-2.ensures at c.kind.ensures)) (rw c.from-3.ensures at c.field-2.ensures)) (rw c.from-4.ensures at c.field-3.ensures))
