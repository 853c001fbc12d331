-- The rooms that hold the records kept, and what a line comes to. Assumes nothing: these are definitions.
use Rattle.std.specs.Prelude.{◌≡◌, List, ℕ, ◌*◌, ◌≤◌, ◌<◌, length, get_or, Result, Ok, Err}
use Rattle.paper.specs.Limits.{most_records}
use Rattle.paper.specs.Net.{Net}
use Rattle.paper.specs.Faults.{number_of}
use Rattle.paper.specs.declared.fault.Fault.{Fault}
use Rattle.paper.specs.File.{Kept, bad, good}
use Rattle.laws.specs.Sets.{Mem}
use Rattle.laws.proofs.Insert.{Sorted}
use Rattle.network_records.specs.Columns.{fun_width, kind_at}
use Rattle.file_rows.specs.Rows.{rows_of, key_of}

-- the network k is kept, or the line is bad by the fault's number
abbrev pub after : Result (Unit {0}) Fault → Net → Kept
after (Ok u) k = good k
after (Err f) k = bad (number_of f)

-- n rows of w numbers stand in d, rising by the first k numbers of each; there is room for 1,024
pub record InOrder (w k n : ℕ) (d : List ℕ) : Type 0 where
  pub room : most_records * w ≤ length d
  pub few : n ≤ most_records
  pub rising : Sorted (key_of k) (rows_of w n d)

-- every kind is a code
pub record Coded (n : ℕ) (d : List ℕ) : Type 0 where
  pub kinds : (r : List ℕ) → Mem r (rows_of fun_width n d) → get_or r kind_at 0 < 3

-- the entries of d past n rows are those of e
pub record Past (w n : ℕ) (d e : List ℕ) : Type 0 where
  pub untouched : (j : ℕ) → n * w ≤ j → get_or e j 0 ≡ get_or d j 0
