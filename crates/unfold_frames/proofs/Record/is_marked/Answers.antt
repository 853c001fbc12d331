use mathlib.Core.Path.{refl}
use Rattle.unfold_frames.proofs.Marks.{bit_mark}
use Rattle.unfold_frames.proofs.Record.is_marked.Goals as goal

pub returns : goal.returns
returns c = let a = c.args in bit_mark a.size a.self.now.choice.now a.self.now.at a.e _ _ _ c.requires.1 c.word.ensures refl c.has_bit.ensures
