-- Rooms whose entries are values of routes, and which a full sweep leaves as they are, hold every pair's entry.
-- Main results: `exact`, `spelled`. Assumes nothing.
use Prim.Native.Nat.{ℕ, ◌+◌, ◌*◌, ◌<◌}
use mathlib.Core.Path.{◌≡◌, refl, sym, ◌∙◌}
use mathlib.Core.Bool.{Bool, true, false, ◌||◌}
use mathlib.Core.List.{List}
use mathlib.Core.Option.{Option}
use native.Mathlib.Omega.{arith}
use borrow.Author.Tests.{le-ltb}
use lib.ListN.{get_or}
use Rattle.paper.specs.Net.{conv, wrap, unwrap, Key}
use Rattle.paper.proofs.Places.{place_lt}
use Rattle.laws.specs.Value.{Value, within, heft, count, cap, Le, plus}
use Rattle.laws.specs.Unfold.{Exact}
use Rattle.laws.proofs.Cap.{le_trans_v, plus_mono_left, cap_light}
use Rattle.laws.proofs.Fixpoint as fixpoint
use Rattle.network.specs.Network.{nodes, protocols, places, hop_in, place_in}
use Rattle.network.specs.Arranged.{Arranged}
use Rattle.network.proofs.Steps.{Found, found, steps_inside, kind_is}
use Rattle.tables_costs.specs.Costs.{worth, blank}
use Rattle.tables_costs.specs.Cells.{Spells, less, cells, value_at}
use Rattle.tables_costs.proofs.Values.{less_strict}
use Rattle.tables_costs.proofs.Worth.{worth_good}
use Rattle.tables_sweeps.specs.Row.{idle, reach, ways, row}
use Rattle.tables_costs.specs.Cells.{pair_at, table}
use Rattle.tables_costs.proofs.Corners.{begin_le}
use Rattle.tables_sweeps.proofs.Lowering.{val}
use Rattle.tables_sweeps.proofs.Ways.{reach_conv, reach_tunnel, ways_on}
use Rattle.tables_sweeps.proofs.Rows.{Rooms, rooms_costs, rooms_pairs, row_closed}
use Rattle.tables_sweeps.proofs.Detours as detours

-- in a full sweep only a shorter way makes a place idle
idle_full : (W C : List ℕ) (i k stamp : ℕ) → idle W C i k stamp 0 ≡ true → less (get_or W i 0) (get_or C i 0) (heft (worth k)) (count (worth k)) ≡ true
unfolding idle
idle_full W C i k stamp e = go (less (get_or W i 0) (get_or C i 0) (heft (worth k)) (count (worth k))) (rw (le-ltb stamp 0 (omega arith)) at e)
  where
    go : (a : Bool) → (a || false) ≡ true → a ≡ true
    go true f = refl
    go false f = f

module _ (g : List ℕ) (known : Arranged g) where
  abbrev h : Key → ℕ → Option (ℕ × ℕ)
  h = hop_in g

  -- rooms between two sweeps: `at_home` says that a place is nothing away from itself
  pub record Sound (W C : List ℕ) : Type 0 where
    pub rooms : Rooms g known (cells W C false)
    pub at_home : (k : ℕ) → k < places g → Le (value_at W C (k * places g + k)) (within 0 0)

  -- no row lowers anything, whatever its places' stamps
  unfoldable pub Still : (W C H : List ℕ) → Type 0
  Still W C H = (v x : ℕ) → v < nodes g → x < protocols g → row g H 0 v x (cells W C false) ≡ cells W C false

  module _ (W C H : List ℕ) (sound : Sound W C) (still : Still W C H) where
    abbrev gets : (v x r : ℕ) → ℕ
    gets v x r = get_or (reach g W C v x (blank 1024)) r 0

    -- a way that is no less than what the row reckons with
    edge : (v x r z : ℕ) (e : Value) → v < nodes g → x < protocols g → r < nodes g → z < protocols g → Le (worth (gets v x (place_in g r z))) e → detours.Edge h (nodes g) (protocols g) (table (nodes g) (protocols g) W C) v x r z e
    unfolding table Still ways val
    edge v x r z e hv hx hr hz l = go (idle W C (place_in g v x * places g + place_in g r z) (gets v x (place_in g r z)) (get_or H (place_in g r z) 0) 0) refl
      where
        R : place_in g r z < places g
        R = place_lt _ _ r z hr hz

        at : place_in g v x * places g + place_in g r z < places g * places g
        at = omega (arith, begin_le (places g) (place_in g v x) (place_lt _ _ v x hv hx), R)

        go : (b : Bool) → idle W C (place_in g v x * places g + place_in g r z) (gets v x (place_in g r z)) (get_or H (place_in g r z) 0) 0 ≡ b → detours.Edge h (nodes g) (protocols g) (table (nodes g) (protocols g) W C) v x r z e
        go true i =
            let t = sound.rooms.spelt _ at in
            detours.passed_over (λ o.
            less_strict (value_at W C (place_in g v x * places g + place_in g r z)) (worth (gets v x (place_in g r z))) (sound.rooms.good _ at) (worth_good (gets v x (place_in g r z)))
            (rw (t.of_weight, t.of_count) at (idle_full W C (place_in g v x * places g + place_in g r z) (gets v x (place_in g r z)) (get_or H (place_in g r z) 0) i))
            (le_trans_v (worth (gets v x (place_in g r z))) e _ l o))
        go false i =
            detours.relaxed (λ u y hu hy.
            let q = place_lt _ _ u y hu hy in
            le_trans_v _ _ _ (row_closed g known v x hv hx H 0 W C sound.rooms (still v x hv hx) (place_in g u y) q)
            (le_trans_v _ (plus (worth (gets v x (place_in g r z))) (value_at W C (place_in g r z * places g + place_in g u y))) _
            (ways_on g known W C (rooms_costs g known W C false sound.rooms) (rooms_pairs g known W C false sound.rooms) v x hx H 0 _ (place_in g r z) (place_in g u y) R q i)
            (plus_mono_left (value_at W C (place_in g r z * places g + place_in g u y)) (worth (gets v x (place_in g r z))) e l)))

    by_conv : (v x l z r w : ℕ) → v < nodes g → x < protocols g → r < nodes g → z < protocols g → Found g known l conv x z v r w → detours.Edge h (nodes g) (protocols g) (table (nodes g) (protocols g) W C) v x r z (cap w 1)
    by_conv v x l z r w hv hx hr hz f =
        edge v x r z (cap w 1) hv hx hr hz
        (rw (f.has_to, f.has_y, ← f.has_weight) at
        (reach_conv g known W C (rooms_costs g known W C false sound.rooms) (rooms_pairs g known W C false sound.rooms) v x hx
        f.j f.i f.of_fun f.of_link f.at_node (kind_is g known conv f.j f.of_fun f.has_kind) f.has_x f.at_from))

    by_tunnel : (v x l z r w q o m s e : ℕ) → v < nodes g → x < protocols g → s < nodes g → Found g known l wrap x z v r w → Found g known m unwrap x o q s e
        → detours.Edge h (nodes g) (protocols g) (table (nodes g) (protocols g) W C) v x s x (plus (cap w 1) (plus (table (nodes g) (protocols g) W C r z q o) (cap e 1)))
    unfolding table
    by_tunnel v x l z r w q o m s e hv hx hs f k =
        edge v x s x _ hv hx hs hx
        (rw (f.has_to, f.has_y, k.has_to, k.at_node, k.has_y, ← f.has_weight, ← k.has_weight) at
        (reach_tunnel g known W C (rooms_costs g known W C false sound.rooms) (rooms_pairs g known W C false sound.rooms) v x hx
        f.j f.i k.j k.i f.of_fun f.of_link k.of_fun k.of_link f.at_node (kind_is g known wrap f.j f.of_fun f.has_kind) f.has_x f.at_from
        (kind_is g known unwrap k.j k.of_fun k.has_kind) k.has_x (k.at_from ∙ sym k.at_node)))

    settled : detours.Settled h (nodes g) (protocols g) (table (nodes g) (protocols g) W C)
    unfolding table
    settled =
        record {
          here = λ v x hv hx. rw (cap_light 0 0 (omega arith)) (sound.at_home (place_in g v x) (place_lt _ _ v x hv hx));
          by_conv = λ v x l z r w hv hx e.
              let i = (steps_inside g known).inside l conv x z v r w e in
              by_conv v x l z r w hv hx i.0 i.1 (found g known l conv x z v r w e);
          by_tunnel = λ v x l z r w q o m s e hv hx hq ho f k.
              by_tunnel v x l z r w q o m s e hv hx ((steps_inside g known).inside m unwrap x o q s e k).0
              (found g known l wrap x z v r w f) (found g known m unwrap x o q s e k);
        }

    attained : fixpoint.Attained h (nodes g) (protocols g) (table (nodes g) (protocols g) W C)
    unfolding table Rattle.tables_sweeps.proofs.Reach.Reached
    attained =
        record {
          attains = λ v x u y hv hx hu hy.
              let q = place_lt _ _ u y hu hy in
              (rooms_pairs g known W C false sound.rooms (place_in g v x * places g + place_in g u y) (omega (arith, begin_le (places g) (place_in g v x) (place_lt _ _ v x hv hx)))).at v x u y hv hx hu hy refl;
        }

    pub exact : Exact h (nodes g) (protocols g) (table (nodes g) (protocols g) W C)
    exact = detours.exact h (nodes g) (protocols g) (table (nodes g) (protocols g) W C) (steps_inside g known) settled attained

    pub spelled : (S a D b : ℕ) → S < nodes g → a < protocols g → D < nodes g → b < protocols g
        → Spells (get_or W (pair_at (nodes g) (protocols g) S a D b) 0) (get_or C (pair_at (nodes g) (protocols g) S a D b) 0) (table (nodes g) (protocols g) W C S a D b)
    unfolding table val
    spelled S a D b hS ha hD hb =
        sound.rooms.spelt (pair_at (nodes g) (protocols g) S a D b) (omega (arith, begin_le (places g) (place_in g S a) (place_lt _ _ S a hS ha), place_lt _ _ D b hD hb))
