-- A store is a text of one byte. Assumes nothing.
use borrow.Author.Rules.{rules}
use Rattle.digits.proofs.Writing.{byte_put}
use Rattle.digits.proofs.write.Writer.byte.Goals as goal

pub returns : goal.returns
returns c = record { room = search rules; size = search rules; put = byte_put _ _ _ }
