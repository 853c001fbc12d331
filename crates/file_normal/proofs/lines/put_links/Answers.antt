-- The next of the links has room, and one fewer is left. Assumes nothing.
use borrow.Author.Rules.{rules}
use native.Mathlib.Omega.{arith}
use Rattle.paper.specs.Normal.{link_text}
use Rattle.network_records.specs.Columns.{link_at}
use Rattle.file_normal.proofs.Rows.{row_room, row_leaves}
use Rattle.file_normal.proofs.lines.put_links.Goals as goal

pub put_link-requires : goal.put_link-requires
put_link-requires c = let a = c.args in let l = c.loop-i in (omega arith, row_room link_text (link_at a.links.now) l.i a.c l.invariant (search rules) c.requires.1)

pub loop-i-preserved : goal.loop-i-preserved
loop-i-preserved c = let a = c.args in let l = c.loop-i in row_leaves link_text (link_at a.links.now) l.i a.c l.invariant (search rules) c.put_link.ensures
