-- The key, then the rest. Assumes nothing.
use mathlib.Core.List.{[], ◌∷◌}
use Rattle.trace_replay.specs.Keys.{key_of}
use Rattle.trace_replay.specs.Packet.{whereabouts}
use Rattle.trace_stepline.specs.Texts.{key_text, end_text}
use Rattle.trace_stepline.proofs.Pieces.{begin, go_on, ended, two_parts}
use Rattle.trace_stepline.proofs.put_step.Goals as goal

pub returns : goal.returns
returns c = let a = c.args in rw (two_parts (key_of a.key) (whereabouts a.p a.cells.now)) (ended (go_on (go_on (begin a.w.now (key_text (key_of a.key) ∷ end_text (whereabouts a.p a.cells.now) ∷ [])) c.put_key.ensures) c.put_end.ensures))
