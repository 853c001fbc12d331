-- A network's records in columns: a link is its number, from, to and weight, a function its node, kind, x, y and weight.
-- Assumes nothing: these are definitions.
use Rattle.std.specs.Prelude.{ℕ, zero, suc, ◌+◌, ◌*◌, cond, List, [], ◌∷◌, eqb, get_or}
use Rattle.std.proofs.Math.Option.{Option}
use Rattle.paper.specs.Limits.{most_records}
use Rattle.paper.specs.Net.{Kind, conv, wrap, unwrap, Link, link, Fun, fun, Net, net, Key, hop}
use Rattle.network_records.specs.declared.Size.{Size}

-- ## How wide a record is, what it is known by, and where its numbers stand

abbrev pub link_width : ℕ
link_width = 4

abbrev pub fun_width : ℕ
fun_width = 5

abbrev pub link_key_width : ℕ
link_key_width = 1

abbrev pub fun_key_width : ℕ
fun_key_width = 4

abbrev pub from_at : ℕ
from_at = 1

abbrev to_at : ℕ
to_at = 2

abbrev toll_at : ℕ
toll_at = 3

abbrev pub node_at : ℕ
node_at = 0

abbrev pub kind_at : ℕ
kind_at = 1

abbrev x_at : ℕ
x_at = 2

abbrev y_at : ℕ
y_at = 3

abbrev fee_at : ℕ
fee_at = 4

-- how many entries the columns have, for the most records
abbrev pub link_room : ℕ
link_room = most_records * link_width

abbrev pub fun_room : ℕ
fun_room = most_records * fun_width

-- ## A record's numbers

abbrev pub number : List ℕ → ℕ → ℕ
number ls i = get_or ls (i * link_width) 0

abbrev pub from : List ℕ → ℕ → ℕ
from ls i = get_or ls (i * link_width + from_at) 0

abbrev pub to : List ℕ → ℕ → ℕ
to ls i = get_or ls (i * link_width + to_at) 0

abbrev pub toll : List ℕ → ℕ → ℕ
toll ls i = get_or ls (i * link_width + toll_at) 0

abbrev pub node : List ℕ → ℕ → ℕ
node fs j = get_or fs (j * fun_width) 0

abbrev pub kind : List ℕ → ℕ → ℕ
kind fs j = get_or fs (j * fun_width + kind_at) 0

abbrev pub x_of : List ℕ → ℕ → ℕ
x_of fs j = get_or fs (j * fun_width + x_at) 0

abbrev pub y_of : List ℕ → ℕ → ℕ
y_of fs j = get_or fs (j * fun_width + y_at) 0

abbrev pub fee : List ℕ → ℕ → ℕ
fee fs j = get_or fs (j * fun_width + fee_at) 0

-- the kind of a code
unfoldable pub kind_of_code : ℕ → Kind
kind_of_code k = cond (eqb k 0) conv (cond (eqb k 1) wrap unwrap)

unfoldable pub link_at : List ℕ → ℕ → Link
link_at ls i = link (number ls i) (from ls i) (to ls i) (toll ls i)

unfoldable pub fun_at : List ℕ → ℕ → Fun
fun_at fs j = fun (node fs j) (kind_of_code (kind fs j)) (x_of fs j) (y_of fs j) (fee fs j)

-- f i, f (i + 1), .., k of them
unfoldable pub rows : {A : Type 0} → (ℕ → A) → ℕ → ℕ → List A
rows f i zero = []
rows f i (suc k) = f i ∷ rows f (suc i) k

-- the first c links, the first d functions of a room
unfoldable pub link_rows : ℕ → List ℕ → List Link
link_rows c ls = rows (link_at ls) 0 c

unfoldable pub fun_rows : ℕ → List ℕ → List Fun
fun_rows d fs = rows (fun_at fs) 0 d

-- a network as large as z, with the first links of one room and the first functions of another
unfoldable pub net_of : (z : Size) (ls fs : List ℕ) → Net
net_of z ls fs = net z.nodes z.protocols (link_rows z.links ls) (fun_rows z.funs fs)

-- where a step leads and what it weighs in that network
unfoldable pub hop_of : (z : Size) (ls fs : List ℕ) → Key → ℕ → Option (ℕ × ℕ)
hop_of z ls fs = hop (net_of z ls fs)
