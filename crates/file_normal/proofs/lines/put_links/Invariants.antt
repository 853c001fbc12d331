-- The loop keeps: the lines of the links from i on are left to write. Assumes nothing.
use Prim.Native.Nat.{◌-◌}
use Rattle.paper.specs.Normal.{link_text, texts}
use Rattle.network_records.specs.Columns.{link_at, rows, link_rows}
use Rattle.digits.specs.Write.{Leaves}
use Rattle.file_normal.proofs.lines.put_links.Given as goal

abbrev pub invariant-loop-i : goal.invariant-loop-i
invariant-loop-i l = Leaves l.initial.w l.w (texts link_text (link_rows l.c l.links)) (texts link_text (rows (link_at l.links) l.i (l.c - l.i)))
