-- One row of the rooms: its entries stay values of routes, and where nothing falls they are at most the ways on.
-- Main results: `row_step`, `row_closed`. Assumes nothing.
use Prim.Native.Nat.{ℕ, ◌+◌, ◌*◌, ◌<◌}
use mathlib.Core.Path.{◌≡◌, refl, ap}
use mathlib.Core.Bool.{Bool, true, false, cond}
use mathlib.Core.List.{List}
use native.Mathlib.Omega.{arith}
use borrow.Author.Tests.{ltb-false}
use lib.Dec.{ltb}
use lib.ListN.{get_or}
use Rattle.paper.proofs.Places.{place_lt}
use Rattle.laws.specs.Value.{Value, Le}
use Rattle.laws.proofs.Depth.{digits}
use Rattle.network.specs.Network.{nodes, protocols, places, place_in}
use Rattle.network.specs.Arranged.{Arranged}
use Rattle.tables_costs.specs.Costs.{worth, cost_at, blank}
use Rattle.tables_costs.specs.Cells.{Cells, cells, value_at}
use Rattle.tables_costs.proofs.Values.{not_less_le}
use Rattle.tables_costs.proofs.Worth.{worth_good, worth_le, Costs, costs_entry}
use Rattle.tables_sweeps.specs.Row.{reached, merging, merged, ways, row}
use Rattle.tables_costs.proofs.Corners.{begin_le}
use Rattle.tables_sweeps.proofs.Falls.{Local}
use Rattle.tables_sweeps.proofs.Lowering.{fell, val, Held, Step, step_none, reached_step, upto_step}
use Rattle.tables_sweeps.proofs.Quiet.{not_lowered, merged_each}
use Rattle.tables_sweeps.proofs.Ways.{PairIs, RowIs, ways_local}

module _ (g : List ℕ) (known : Arranged g) where
  -- the rooms hold values of routes
  abbrev pub Rooms : Cells → Type 0
  Rooms = Held (places g * places g) (PairIs g known)

  pub rooms_costs : (W C : List ℕ) (b : Bool) → Rooms (cells W C b) → (i : ℕ) → i < places g * places g → Costs (cost_at W C i) (value_at W C i)
  unfolding val cost_at
  rooms_costs W C b o i h = costs_entry (value_at W C i) _ _ (o.good i h) (o.spelt i h)

  pub rooms_pairs : (W C : List ℕ) (b : Bool) → Rooms (cells W C b) → (i : ℕ) → i < places g * places g → PairIs g known i (value_at W C i)
  unfolding val
  rooms_pairs W C b o i h = o.is i h

  module _ (v x : ℕ) (hv : v < nodes g) (hx : x < protocols g) where
    abbrev base : ℕ
    base = place_in g v x * places g

    inside : (q : ℕ) → q < places g → base + q < places g * places g
    inside q hq = omega (arith, begin_le (places g) (place_in g v x) (place_lt _ _ v x hv hx))

    -- what stands in a row stands in the rooms
    row_pair : (q : ℕ) (e : Value) → q < places g → RowIs g known v x q e → PairIs g known (base + q) e
    row_pair q e hq r =
        record {
          at = λ v' x' u y hv' hx' hu hy i.
              let a = digits (places g) (place_in g v x) q (place_in g v' x') (place_in g u y) hq (place_lt _ _ u y hu hy) i in
              let c = digits (protocols g) v x v' x' hx hx' a.0 in
              rw (c.0, c.1) at (r.at u y hu hy a.1);
        }

    module _ (m : ℕ) (y : List ℕ) (o : Local (places g) m (RowIs g known v x) y) where
      merging_step : (q : ℕ) → q < places g → (s : Cells) → Rooms s → Step (places g * places g) (PairIs g known) s (merging base y q s)
      unfolding merging
      merging_step q hq (cells W C b) rooms = go (ltb (get_or y q 0) (cost_at W C (base + q)))
        where
          go : (r : Bool) → Step (places g * places g) (PairIs g known) (cells W C b) (cond r (reached (base + q) (worth (get_or y q 0)) (cells W C b)) (cells W C b))
          go true = reached_step (places g * places g) (PairIs g known) (base + q) _ (inside q hq) (worth_good (get_or y q 0)) (row_pair q _ hq (o.is q hq)) (cells W C b) rooms
          go false = step_none (places g * places g) (PairIs g known) (cells W C b) rooms

      merged_step : (s : Cells) → Rooms s → Step (places g * places g) (PairIs g known) s (merged base (places g) y s)
      unfolding merged
      merged_step = upto_step (places g * places g) (PairIs g known) _ (places g) merging_step

      merging_closed : (W C : List ℕ) → Rooms (cells W C false) → (q : ℕ) → q < places g → merging base y q (cells W C false) ≡ cells W C false
          → Le (value_at W C (base + q)) (worth (get_or y q 0))
      unfolding merging val
      merging_closed W C rooms q hq = go (ltb (get_or y q 0) (cost_at W C (base + q))) refl
        where
          go : (r : Bool) → ltb (get_or y q 0) (cost_at W C (base + q)) ≡ r → cond r (reached (base + q) (worth (get_or y q 0)) (cells W C false)) (cells W C false) ≡ cells W C false
              → Le (value_at W C (base + q)) (worth (get_or y q 0))
          go true f e =
              let t = rooms.spelt (base + q) (inside q hq) in
              not_less_le (worth (get_or y q 0)) (value_at W C (base + q)) (worth_good (get_or y q 0)) (rooms.good (base + q) (inside q hq))
              (rw (t.of_weight, t.of_count) at (not_lowered (base + q) (worth (get_or y q 0)) W C e))
          go false f e = rw (rooms_costs W C false rooms (base + q) (inside q hq)).is at (worth_le (cost_at W C (base + q)) (get_or y q 0) (ltb-false _ _ f))

    module _ (H : List ℕ) (since : ℕ) where
      pub row_step : (s : Cells) → Rooms s → Step (places g * places g) (PairIs g known) s (row g H since v x s)
      unfolding row ways
      row_step (cells W C b) rooms =
          merged_step 5 _ (ways_local g known W C (rooms_costs W C b rooms) (rooms_pairs W C b rooms) v x hx H since base) (cells W C b) rooms

      -- a row that nothing lowered
      pub row_closed : (W C : List ℕ) → Rooms (cells W C false) → row g H since v x (cells W C false) ≡ cells W C false
          → (q : ℕ) → q < places g → Le (value_at W C (base + q)) (worth (get_or (ways g W C H since v x (blank 1024)) q 0))
      unfolding row ways
      row_closed W C rooms e q hq =
          merging_closed 5 _ (ways_local g known W C (rooms_costs W C false rooms) (rooms_pairs W C false rooms) v x hx H since base) W C rooms q hq
          (merged_each base (places g) (ways g W C H since v x (blank 1024)) (cells W C false) (ap fell e) q hq)
