-- The network file, judged: one fold over its lines, which keeps the records in normal order.
-- Outcomes 1 to 5 and their line come from it. Assumes nothing: these are definitions.
use Rattle.std.specs.Prelude.{Bool, false, not, cond, ◌&&◌, ◌||◌, List, [], ◌∷◌, ℕ, suc, ◌*◌, eqb, leb, ltb, length, get_or}
use Rattle.std.proofs.Math.Option.{Option, none, some}
use Rattle.paper.specs.Text.{Line, ended, cut, lines, fields, number, same, net_word, link_word, fun_word, conv_word, wrap_word, unwrap_word}
use Rattle.paper.specs.Limits.{most_bytes, most_nodes, most_protocols, most_places, most_number, most_weight, most_records}
use Rattle.paper.specs.Net.{Kind, conv, wrap, unwrap, code, Link, link, Fun, fun, Net, net, before}

-- ## One line: its shape (2)

pub data Shape : Type 0 where
  misshapen : Shape
  net_line : ℕ → ℕ → Shape
  link_line : Link → Shape
  fun_line : Fun → Shape

unfoldable pub kind_of : List ℕ → Option Kind
kind_of f = cond (same f conv_word) (some conv) (cond (same f wrap_word) (some wrap) (cond (same f unwrap_word) (some unwrap) none))

unfoldable pub net_of : Option ℕ → Option ℕ → Shape
net_of none p = misshapen
net_of (some n) none = misshapen
net_of (some n) (some p) = net_line n p

unfoldable pub link_of : Option ℕ → Option ℕ → Option ℕ → Option ℕ → Shape
link_of none u v w = misshapen
link_of (some l) none v w = misshapen
link_of (some l) (some u) none w = misshapen
link_of (some l) (some u) (some v) none = misshapen
link_of (some l) (some u) (some v) (some w) = link_line (link l u v w)

unfoldable pub fun_of : Option ℕ → Option Kind → Option ℕ → Option ℕ → Option ℕ → Shape
fun_of none k x y w = misshapen
fun_of (some v) none x y w = misshapen
fun_of (some v) (some k) none y w = misshapen
fun_of (some v) (some k) (some x) none w = misshapen
fun_of (some v) (some k) (some x) (some y) none = misshapen
fun_of (some v) (some k) (some x) (some y) (some w) = fun_line (fun v k x y w)

-- field i, the word being field 0; a missing field is empty
unfoldable pub field : List (List ℕ) → ℕ → List ℕ
field fs i = get_or fs i []

unfoldable pub shaped : List (List ℕ) → Shape
shaped fs =
    cond (same (field fs 0) net_word)
    (cond (eqb (length fs) 3) (net_of (number (field fs 1)) (number (field fs 2))) misshapen)
    (cond (same (field fs 0) link_word)
    (cond (eqb (length fs) 5) (link_of (number (field fs 1)) (number (field fs 2)) (number (field fs 3)) (number (field fs 4))) misshapen)
    (cond (same (field fs 0) fun_word)
    (cond (eqb (length fs) 6) (fun_of (number (field fs 1)) (kind_of (field fs 2)) (number (field fs 3)) (number (field fs 4)) (number (field fs 5))) misshapen)
    misshapen))

-- a line that lacks its LF is misshapen
unfoldable pub shape : Line → Shape
shape (ended l) = shaped (fields l)
shape (cut l) = misshapen

-- ## What a record is known by (4), and its place in normal order

unfoldable pub link_key : Link → List ℕ
link_key (link l u v w) = l ∷ []

unfoldable pub fun_key : Fun → List ℕ
fun_key (fun v k x y w) = v ∷ code k ∷ x ∷ y ∷ []

module _ {A : Type 0} (key : A → List ℕ) where
  -- r laid in at its place
  unfoldable pub insert : A → List A → List A
  insert r [] = r ∷ []
  insert r (s ∷ ss) = cond (before (key r) (key s)) (r ∷ s ∷ ss) (s ∷ insert r ss)

  -- r's key is given already
  unfoldable pub given : A → List A → Bool
  given r [] = false
  given r (s ∷ ss) = same (key r) (key s) || given r ss

-- ## The ranges (3)

unfoldable pub net_fits : ℕ → ℕ → Bool
net_fits n p = leb 1 n && leb n most_nodes && leb 1 p && leb p most_protocols && leb (n * p) most_places

unfoldable pub link_fits : ℕ → Link → Bool
link_fits n (link l u v w) = leb l most_number && ltb u n && ltb v n && leb w most_weight

unfoldable pub fun_fits : ℕ → ℕ → Fun → Bool
fun_fits n p (fun v k x y w) = ltb v n && ltb x p && ltb y p && leb w most_weight

-- ## One line on top of those above it: 2, 3, 4, 5 in that order

-- what the lines so far give
pub data Kept : Type 0 where
  bad : ℕ → Kept
  good : Net → Kept

-- the first line
unfoldable pub header : Shape → Kept
header (net_line n p) = cond (net_fits n p) (good (net n p [] [])) (bad 3)
header misshapen = bad 2
header (link_line l) = bad 2
header (fun_line f) = bad 2

-- a line below it
unfoldable pub put : Net → Shape → Kept
put k misshapen = bad 2
put k (net_line a b) = bad 2
put (net n p ls fs) (link_line l) =
    cond (not (link_fits n l)) (bad 3) (cond (given link_key l ls) (bad 4) (cond (leb most_records (length ls)) (bad 5)
    (good (net n p (insert link_key l ls) fs))))
put (net n p ls fs) (fun_line f) =
    cond (not (fun_fits n p f)) (bad 3) (cond (given fun_key f fs) (bad 4) (cond (leb most_records (length fs)) (bad 5)
    (good (net n p ls (insert fun_key f fs)))))

-- ## The file

pub data Judged : Type 0 where
  refused : ℕ → ℕ → Judged
  accepted : Net → Judged

-- the first bad line decides: the lines ls stand below line i, and k is what line i and those above it gave
unfoldable pub onward : ℕ → List Line → Kept → Judged
onward i [] (bad d) = refused d i
onward i [] (good k) = accepted k
onward i (l ∷ ls) (bad d) = refused d i
onward i (l ∷ ls) (good k) = onward (suc i) ls (put k (shape l))

unfoldable pub from_top : List Line → Judged
from_top [] = refused 2 1
from_top (l ∷ ls) = onward 1 ls (header (shape l))

unfoldable pub judge : List ℕ → Judged
judge file = cond (ltb most_bytes (length file)) (refused 1 0) (from_top (lines file))
