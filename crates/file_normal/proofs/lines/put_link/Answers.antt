-- The word, four numbers of the room and the LF fill the line. Assumes nothing.
use Rattle.digits.proofs.Writing.{wrote_then}
use Rattle.file_normal.proofs.Parts.{link_parts}
use Rattle.file_normal.proofs.lines.put_link.Goals as goal

pub returns : goal.returns
returns c = rw (link_parts c.args.links.now c.args.i c.requires.0) (wrote_then (wrote_then c.word.ensures c.fields.ensures) c.byte.ensures)
