-- The loop keeps: the lines of the functions from j on are left to write. Assumes nothing.
use Prim.Native.Nat.{◌-◌}
use Rattle.paper.specs.Normal.{fun_text, texts}
use Rattle.network_records.specs.Columns.{fun_at, rows, fun_rows}
use Rattle.digits.specs.Write.{Leaves}
use Rattle.file_normal.proofs.lines.put_funs.Given as goal

abbrev pub invariant-loop-j : goal.invariant-loop-j
invariant-loop-j l = Leaves l.initial.w l.w (texts fun_text (fun_rows l.d l.funs)) (texts fun_text (rows (fun_at l.funs) l.j (l.d - l.j)))
