-- The next of the functions has room, and one fewer is left. Assumes nothing.
use borrow.Author.Rules.{rules}
use native.Mathlib.Omega.{arith}
use Rattle.paper.specs.Normal.{fun_text}
use Rattle.network_records.specs.Columns.{fun_at}
use Rattle.file_normal.proofs.Rows.{row_room, row_leaves}
use Rattle.file_normal.proofs.lines.put_funs.Goals as goal

pub put_fun-requires : goal.put_fun-requires
put_fun-requires c = let a = c.args in let l = c.loop-j in (omega arith, row_room fun_text (fun_at a.funs.now) l.j a.d l.invariant (search rules) c.requires.1)

pub loop-j-preserved : goal.loop-j-preserved
loop-j-preserved c = let a = c.args in let l = c.loop-j in row_leaves fun_text (fun_at a.funs.now) l.j a.d l.invariant (search rules) c.put_fun.ensures
