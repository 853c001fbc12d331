-- Refused as the reader says, refused for the room, or written. Assumes nothing.
use native.Mathlib.Omega.{arith}
use Rattle.file_normal.proofs.Answers.{answer_long, room_enough, answer_written}
use Rattle.file_normal.proofs.file.normal_in.Goals as goal

pub returns-then-text-file : goal.returns-then-text-file
returns-then-text-file c = answer_long _ c.args.text.now _ c.in_ok-size.ensures.judged c.if-text-file.true

pub write_normal-length-requires : goal.write_normal-length-requires
write_normal-length-requires c = let r = c.in_ok-size.ensures in record { valid = r.valid; fits = omega (arith, room_enough _ c.args.text.now _ r.judged c.if-text-file.false) }

pub returns : goal.returns
returns c = let w = c.write_normal-length in answer_written _ c.args.text.now _ c.in_ok-size.ensures.judged w.result _ c.if-text-file.false w.ensures.value w.ensures.laid_in
