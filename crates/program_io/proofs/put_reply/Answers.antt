-- The word, two fields and the LF are the reply. Assumes nothing.
use Rattle.digits.proofs.Writing.{wrote_then}
use Rattle.program_io.proofs.Replies.{reply_parts}
use Rattle.program_io.proofs.put_reply.Goals as goal

pub returns : goal.returns
returns c =
    let a = c.args in
    rw (reply_parts a.word.now a.number a.line) (wrote_then (wrote_then (wrote_then c.word.ensures c.field.ensures) c.field-2.ensures) c.byte.ensures)
