-- Document 01's limits, each under its name. Assumes nothing: these are definitions.
use Rattle.std.specs.Prelude.{ℕ}

-- ## The file

abbrev pub most_bytes : ℕ
most_bytes = 65536

abbrev pub most_nodes : ℕ
most_nodes = 256

abbrev pub most_protocols : ℕ
most_protocols = 16

abbrev pub most_places : ℕ
most_places = 1024

abbrev pub most_number : ℕ
most_number = 65535

-- of a link or a function
abbrev pub most_weight : ℕ
most_weight = 1000000000

-- links, and functions as many
abbrev pub most_records : ℕ
most_records = 1024

-- ## The route

abbrev pub heaviest : ℕ
heaviest = 4000000000

abbrev pub longest : ℕ
longest = 4096

-- ## Marks in the weight and count rooms

abbrev pub over_mark : ℕ
over_mark = 4294967294

abbrev pub never_mark : ℕ
never_mark = 4294967295

abbrev pub long_mark : ℕ
long_mark = 4097
