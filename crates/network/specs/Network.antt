-- The network in memory: one room g of numbers, which is all that the search sees of a network.
-- It holds the numbers of nodes, protocols, links and functions; where each node's links start, and where its functions do;
-- the links, grouped by the node that they leave; and the functions, grouped by node. Assumes nothing: these are definitions.
use Rattle.std.specs.Prelude.{ℕ, ◌+◌, ◌*◌, ◌<◌, List, get_or, drop}
use Rattle.std.proofs.Math.Option.{Option}
use Rattle.paper.specs.Limits.{most_nodes}
use Rattle.paper.specs.Net.{Key, place}
use Rattle.paper.specs.declared.place.Place.{Place}
use Rattle.network_records.specs.declared.Size.{Size}
use Rattle.network_records.specs.Columns as columns

-- ## The room

-- where each of its parts begins, and how long it is
abbrev pub link_starts : ℕ
link_starts = 4

abbrev pub fun_starts : ℕ
fun_starts = link_starts + most_nodes + 1

abbrev pub links_begin : ℕ
links_begin = fun_starts + most_nodes + 1

abbrev pub funs_begin : ℕ
funs_begin = links_begin + columns.link_room

abbrev pub room_size : ℕ
room_size = funs_begin + columns.fun_room

-- the links and the functions, in columns
abbrev pub links_room : List ℕ → List ℕ
links_room g = drop links_begin g

abbrev pub funs_room : List ℕ → List ℕ
funs_room g = drop funs_begin g

-- ## How many there are

abbrev pub nodes : List ℕ → ℕ
nodes g = get_or g 0 0

abbrev pub protocols : List ℕ → ℕ
protocols g = get_or g 1 0

abbrev pub links : List ℕ → ℕ
links g = get_or g 2 0

abbrev pub funs : List ℕ → ℕ
funs g = get_or g 3 0

abbrev pub size_of : List ℕ → Size
size_of g = record { nodes = nodes g; protocols = protocols g; links = links g; funs = funs g }

abbrev pub places : List ℕ → ℕ
places g = nodes g * protocols g

-- ## The records

-- where the links of node v start, and where its functions do
abbrev pub link_start : List ℕ → ℕ → ℕ
link_start g v = get_or g (link_starts + v) 0

abbrev pub fun_start : List ℕ → ℕ → ℕ
fun_start g v = get_or g (fun_starts + v) 0

-- link i
abbrev pub number : List ℕ → ℕ → ℕ
number g i = columns.number (links_room g) i

abbrev pub from : List ℕ → ℕ → ℕ
from g i = columns.from (links_room g) i

abbrev pub to : List ℕ → ℕ → ℕ
to g i = columns.to (links_room g) i

abbrev pub toll : List ℕ → ℕ → ℕ
toll g i = columns.toll (links_room g) i

-- function j
abbrev pub node : List ℕ → ℕ → ℕ
node g j = columns.node (funs_room g) j

abbrev pub kind : List ℕ → ℕ → ℕ
kind g j = columns.kind (funs_room g) j

abbrev pub x_of : List ℕ → ℕ → ℕ
x_of g j = columns.x_of (funs_room g) j

abbrev pub y_of : List ℕ → ℕ → ℕ
y_of g j = columns.y_of (funs_room g) j

abbrev pub fee : List ℕ → ℕ → ℕ
fee g j = columns.fee (funs_room g) j

-- ## What it says

-- where a step leads and what it weighs
abbrev pub hop_in : List ℕ → Key → ℕ → Option (ℕ × ℕ)
hop_in g = columns.hop_of (size_of g) (links_room g) (funs_room g)

-- the number of a place
abbrev pub place_in : List ℕ → ℕ → ℕ → ℕ
place_in g v x = place (protocols g) v x

abbrev pub number_of : List ℕ → Place → ℕ
number_of g at = place_in g at.node at.protocol

-- its node and its protocol are the network's
abbrev pub Within : List ℕ → Place → Type 0
Within g at = (at.node < nodes g) × (at.protocol < protocols g)
