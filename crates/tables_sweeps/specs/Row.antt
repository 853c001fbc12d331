-- One row of the tables, lowered to the ways on from its place: one function here for each in the code.
-- g is the network, W and C are the weight and count rooms. A list of costs has one for each place that a route may come to; what stands there is what it takes to get there.
-- Assumes nothing: these are definitions.
use Rattle.std.specs.Prelude.{ℕ, ◌+◌, ◌*◌, Bool, cond, not, ◌&&◌, ◌||◌, List, eqb, leb, ltb, get_or}
use Rattle.paper.specs.Limits.{never_mark}
use Rattle.laws.specs.Value.{Value, heft, count}
use Rattle.network.specs.Network.{links, funs, places, from, to, toll, node, kind, x_of, y_of, fee, place_in}
use Rattle.network.specs.Next.{leaves, suits}
use Rattle.tables_costs.specs.Loop.{upto}
use Rattle.tables_costs.specs.Costs.{far, worth, cost_at, lower_to, blank}
use Rattle.tables_costs.specs.Cells.{Cells, cells, less, lowered}

-- ## On from places that are reached, by the rows of the rooms

-- the entry at i is lighter than the cost k, or as light and what follows it is not new: its stamp is before `since`
unfoldable pub idle : (W C : List ℕ) (i k stamp since : ℕ) → Bool
idle W C i k stamp since =
    less (get_or W i 0) (get_or C i 0) (heft (worth k)) (count (worth k))
    || (ltb stamp since && not (less (heft (worth k)) (count (worth k)) (get_or W i 0) (get_or C i 0)))

-- at c, and then by entry i to place q, where there is a route
unfoldable pub carried : (W C : List ℕ) (c i q : ℕ) → List ℕ → List ℕ
carried W C c i q y = cond (eqb (get_or W i 0) never_mark) y (lower_to q (c + cost_at W C i) y)

module _ (W C : List ℕ) (size : ℕ) where
  -- at c, and then by the row that begins at `base`
  unfoldable pub composed : (base c : ℕ) → List ℕ → List ℕ
  composed base c = upto (λ q. carried W C c (base + q) q) size

  -- on from place r, where something gets there
  unfoldable pub onward : (a : List ℕ) (r : ℕ) → List ℕ → List ℕ
  onward a r y = cond (leb far (get_or a r 0)) y (composed (r * size) (get_or a r 0) y)

  unfoldable pub onwards : (a : List ℕ) → List ℕ → List ℕ
  onwards a = upto (onward a) size

  -- on from place r, unless the row that begins at `base` has nothing to gain there; H has the stamp of each row's last change
  unfoldable pub going : (H : List ℕ) (since base : ℕ) (a : List ℕ) (r : ℕ) → List ℕ → List ℕ
  going H since base a r y = cond (idle W C (base + r) (get_or a r 0) (get_or H r 0) since) y (onward a r y)

  unfoldable pub goings : (H : List ℕ) (since base : ℕ) (a : List ℕ) → List ℕ → List ℕ
  goings H since base a = upto (going H since base a) size

-- ## Steps and tunnels from one place

-- what function j over link i takes: one step
abbrev pub step_cost : (g : List ℕ) (j i : ℕ) → ℕ
step_cost g j i = (fee g j + toll g i) * 65536 + 1

-- function j over link i, where that leaves v
unfoldable pub crossing : (g : List ℕ) (v j i : ℕ) → List ℕ → List ℕ
crossing g v j i a = cond (leaves g v i) (lower_to (place_in g (to g i) (y_of g j)) (step_cost g j i) a) a

-- function j over each link of v, where it is one of v, of kind k, for x
unfoldable pub serving : (g : List ℕ) (v k x j : ℕ) → List ℕ → List ℕ
serving g v k x j a = cond (suits g v k x j) (upto (crossing g v j) (links g) a) a

unfoldable pub steps : (g : List ℕ) (v k x : ℕ) → List ℕ → List ℕ
steps g v k x = upto (serving g v k x) (funs g)

-- function j, where it unwraps what hides x, at an exit that something gets to; its link is yet to be crossed
unfoldable pub closing : (g : List ℕ) (x : ℕ) (exits : List ℕ) (j : ℕ) → List ℕ → List ℕ
closing g x exits j e =
    cond (eqb (kind g j) 2 && eqb (x_of g j) x)
    (cond (leb far (get_or exits (place_in g (node g j) (y_of g j)) 0)) e
    (lower_to (node g j) (get_or exits (place_in g (node g j) (y_of g j)) 0 + (fee g j * 65536 + 1)) e)) e

unfoldable pub closings : (g : List ℕ) (x : ℕ) (exits : List ℕ) → List ℕ → List ℕ
closings g x exits = upto (closing g x exits) (funs g)

-- link i, from a node where a tunnel has been closed, under x
unfoldable pub landing : (g : List ℕ) (x : ℕ) (ends : List ℕ) (i : ℕ) → List ℕ → List ℕ
landing g x ends i a =
    cond (leb far (get_or ends (from g i) 0)) a
    (lower_to (place_in g (to g i) x) (get_or ends (from g i) 0 + (toll g i * 65536 + 0)) a)

unfoldable pub landings : (g : List ℕ) (x : ℕ) (ends : List ℕ) → List ℕ → List ℕ
landings g x ends = upto (landing g x ends) (links g)

-- ## Into the rooms

-- the entry at i lowered to a value
unfoldable pub reached : ℕ → Value → Cells → Cells
reached i e = lowered i (heft e) (count e)

-- the entry lowered to the cost at q, where that is less
unfoldable pub merging : (base : ℕ) (y : List ℕ) (q : ℕ) → Cells → Cells
merging base y q (cells W C b) =
    cond (ltb (get_or y q 0) (cost_at W C (base + q))) (reached (base + q) (worth (get_or y q 0)) (cells W C b)) (cells W C b)

unfoldable pub merged : (base size : ℕ) (y : List ℕ) → Cells → Cells
merged base size y = upto (merging base y) size

-- ## The row

module _ (g : List ℕ) where
  module _ (W C : List ℕ) where
    -- into the tunnels that begin at v under x, and on inside them
    unfoldable pub inside : (v x : ℕ) → List ℕ → List ℕ
    inside v x = onwards W C (places g) (steps g v 1 x (blank 1024))

    -- through those tunnels
    unfoldable pub tunnels : (v x : ℕ) → List ℕ → List ℕ
    tunnels v x = landings g x (closings g x (inside v x (blank 1024)) (blank 256))

    -- the places that one step or one tunnel leads to, and the ways on from there
    unfoldable pub reach : (v x : ℕ) → List ℕ → List ℕ
    reach v x a = tunnels v x (steps g v 0 x a)

    unfoldable pub ways : (H : List ℕ) (since v x : ℕ) → List ℕ → List ℕ
    ways H since v x = goings W C (places g) H since (place_in g v x * places g) (reach v x (blank 1024))

  unfoldable pub row : (H : List ℕ) (since v x : ℕ) → Cells → Cells
  row H since v x (cells W C b) = merged (place_in g v x * places g) (places g) (ways W C H since v x (blank 1024)) (cells W C b)
