-- The word, two fields and the LF fill the net line. Assumes nothing.
use Rattle.digits.proofs.Writing.{wrote_then}
use Rattle.file_normal.proofs.Parts.{net_parts}
use Rattle.file_normal.proofs.lines.put_net.Goals as goal

pub returns : goal.returns
returns c = let a = c.args in rw (net_parts a.n a.p) (wrote_then (wrote_then (wrote_then c.word.ensures c.field.ensures) c.field-2.ensures) c.byte.ensures)
