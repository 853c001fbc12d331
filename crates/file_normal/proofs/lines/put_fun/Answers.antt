-- The word, the node, the kind word, three numbers of the room and the LF fill the line. Assumes nothing.
use Rattle.digits.proofs.Writing.{wrote_then}
use Rattle.file_normal.proofs.Parts.{fun_parts}
use Rattle.file_normal.proofs.lines.put_fun.Goals as goal

pub returns : goal.returns
returns c =
    let k = rw c.from.ensures at c.kind.ensures in
    rw (fun_parts c.args.funs.now c.args.j c.requires.0) (wrote_then (wrote_then (wrote_then (wrote_then c.word.ensures c.field.ensures) k) c.fields.ensures) c.byte.ensures)
