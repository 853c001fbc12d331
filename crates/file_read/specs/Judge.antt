-- The reader's answer as the paper judges, and what the rooms hold while the lines are read. Assumes nothing: these are definitions.
use Rattle.std.specs.Prelude.{◌≡◌, List, ℕ, ◌≤◌, ◌<◌, length, Result, Ok, Err}
use Rattle.paper.specs.Limits.{most_nodes, most_protocols}
use Rattle.paper.specs.File.{Kept, bad, good, Judged, refused, accepted}
use Rattle.paper.specs.Faults.{number_of}
use Rattle.paper.specs.declared.fault.Fault.{Fault}
use Rattle.paper.specs.declared.fault.Refusal.{Refusal}
use Rattle.network_records.specs.declared.Size.{Size}
use Rattle.network_records.specs.Columns.{link_width, fun_width, link_key_width, fun_key_width, net_of}
use Rattle.file_cursor.specs.declared.Cursor.{Cursor}
use Rattle.file_keep.specs.Keep.{InOrder, Coded, Past}

-- the network of this size that stands in ls and fs is accepted, or the file is refused by number and line
abbrev pub judged_of : Result Size Refusal → (ls fs : List ℕ) → Judged
judged_of (Ok z) ls fs = accepted (net_of z ls fs)
judged_of (Err r) ls fs = refused (number_of r.fault) r.line

-- the lines so far are kept, or the last of them is bad by the fault's number
abbrev pub kept_of : Result Size Fault → (ls fs : List ℕ) → Kept
kept_of (Ok z) ls fs = good (net_of z ls fs)
kept_of (Err f) ls fs = bad (number_of f)

-- a fault refuses the file at the line i
abbrev pub refused_at : ℕ → Result Size Fault → Result Size Refusal
refused_at i (Ok z) = Ok z
refused_at i (Err f) = Err (record { fault = f; line = i })

-- ## The rooms

-- the network that the first line alone gives
pub record Bare (z : Size) : Type 0 where
  pub nodes : z.nodes ≤ most_nodes
  pub protocols : z.protocols ≤ most_protocols
  pub no_links : z.links ≡ 0
  pub no_funs : z.funs ≡ 0

-- ls and fs hold the records of a network as large as z, each in normal order, the kinds as codes
pub record Held (z : Size) (ls fs : List ℕ) : Type 0 where
  pub nodes : z.nodes ≤ most_nodes
  pub protocols : z.protocols ≤ most_protocols
  pub links : InOrder link_width link_key_width z.links ls
  pub funs : InOrder fun_width fun_key_width z.funs fs
  pub codes : Coded z.funs fs

-- ls and fs have become ls' and fs': their entries past the records of z are as they were
pub record Untouched (z : Size) (ls ls' fs fs' : List ℕ) : Type 0 where
  pub past_links : Past link_width z.links ls ls'
  pub past_funs : Past fun_width z.funs fs fs'

-- the records of y, in ls and fs, have become those of z, in ls' and fs'
pub record Grown (y : Size) (ls fs : List ℕ) (z : Size) (ls' fs' : List ℕ) : Type 0 where
  pub more_links : y.links ≤ z.links
  pub more_funs : y.funs ≤ z.funs
  pub held : Held z ls' fs'
  pub past : Untouched z ls ls' fs fs'

-- ## The lines, one after another

-- the cursor c has become d, further on in the same file
pub record Onto (c d : Cursor) : Type 0 where
  pub same : d.file ≡ c.file
  pub further : c.at < d.at
  pub within : d.at ≤ length c.file.now
